-- Transpose, ⍉B: the axes in reverse order.
use Rattle.std.specs.Prelude.{ℕ, List, reverse, Result, Some}
use Rattle.arrays_core.{specs.declared.item.Item.{Item}, specs.declared.item.Kind.{Kind}, specs.Arrays.{ArrayValue}}
use Rattle.index_region.{specs.Checks.{Form, limited, whole}, specs.Sources.{Place, Source, item_from}}
use Rattle.change_core.{specs.RuleModels.{RuleModel}, specs.Sourced.{Spread, one_sourced}}

-- the checks, and the shape and the type of the result
abbrev pub transpose_form : ArrayValue → Result Form Kind
transpose_form b = limited (reverse b.shape) b.item_type

-- the source of the item at an index list
abbrev pub transpose_source : ArrayValue → List ℕ → Source
transpose_source b index = Place 0 (reverse index)

-- the item at an index list
abbrev pub transpose_item : ArrayValue → List ℕ → Result Item Kind
transpose_item b index = item_from b b b.item_type (transpose_source b index)

-- the whole result
abbrev pub transpose_whole : ArrayValue → Result ArrayValue Kind
transpose_whole b = whole (transpose_form b) (transpose_item b)

-- The change rule of ⍉B: the changed box with its axes in reverse order.

-- the box: the intervals in reverse order
abbrev pub transpose_box : Spread
transpose_box region = Some (reverse region)

-- each item reads the place that it is copied from
abbrev pub transpose_rule : RuleModel
transpose_rule = one_sourced transpose_form transpose_source (λ shape b. transpose_box)
