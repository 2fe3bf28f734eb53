-- Ravel, ,B: the items in row-major order, as a vector.
use Rattle.std.specs.Prelude.{ℕ, ◌-◌, List, [], ◌∷◌, get_or, Result, ◌+◌, Some}
use Rattle.arrays_core.{specs.declared.item.Item.{Item}, specs.declared.item.Kind.{Kind}, specs.Arrays.{ArrayValue}, specs.Shapes.{size, index_after, places_before}}
use Rattle.index_region.{specs.Checks.{Form, limited, whole}, specs.Sources.{Place, Source, item_from}}
use Rattle.change_core.{specs.Places.{first_of_box, last_of_box}, specs.RuleModels.{RuleModel}, specs.Sourced.{Spread, one_sourced}}

-- the checks, and the shape and the type of the result
abbrev pub ravel_form : ArrayValue → Result Form Kind
ravel_form b = limited (size b.shape ∷ []) b.item_type

-- the source of the item at an index list
abbrev pub ravel_source : ArrayValue → List ℕ → Source
ravel_source b index = Place 0 (index_after b.shape (get_or index 0 0 - 1))

-- the item at an index list
abbrev pub ravel_item : ArrayValue → List ℕ → Result Item Kind
ravel_item b index = item_from b b b.item_type (ravel_source b index)

-- the whole result
abbrev pub ravel_whole : ArrayValue → Result ArrayValue Kind
ravel_whole b = whole (ravel_form b) (ravel_item b)

-- The change rule of ravel.

-- from the first place of the box in the ravel to the last
abbrev pub ravel_box : List ℕ → ArrayValue → Spread
ravel_box shape b region = Some ((places_before b.shape (first_of_box region) + 1, places_before b.shape (last_of_box region) + 1) ∷ [])

abbrev pub ravel_rule : RuleModel
ravel_rule = one_sourced ravel_form ravel_source ravel_box
