-- Drop, A↓B: leaves out the first or last places of each axis.
use Rattle.std.specs.Prelude.{ℕ, ◌+◌, ◌-◌, ℤ, pos, negsuc, unsigned_abs, List, [], ◌∷◌, Result, suc, true, Some, None}
use Rattle.arrays_core.{specs.declared.item.Item.{Item}, specs.declared.item.Kind.{Kind}, specs.Arrays.{ArrayValue}}
use Rattle.index_region.{specs.Checks.{Form, whole}, specs.Arguments.{numbers}, specs.Sources.{Place, Source, item_from}}
use Rattle.change_core.{specs.RuleModels.{RuleModel}, specs.Ways.{Axis, images}, specs.Sourced.{Spread, two_sourced}}
use Rattle.structural_fns.specs.AxisCounts.{counted_shape, uncounted, counted_form, counted_box}

-- the lengths of the axes of the result
abbrev pub dropped_shape : List ℕ → List ℤ → List ℕ
dropped_shape (n ∷ shape) (count ∷ counts) = (n - unsigned_abs count) ∷ dropped_shape shape counts
dropped_shape shape counts = []

-- the checks, and the shape and the type of the result
abbrev pub drop_form : ArrayValue → ArrayValue → Result Form Kind
drop_form a b = counted_form (dropped_shape (counted_shape a b) (numbers a)) a b

-- the place that place i of the result comes from: a positive count leaves out the first places, a negative one the last
abbrev pub kept_place : ℤ → ℕ → ℕ
kept_place (pos count) i = i + count
kept_place (negsuc count) i = i

-- the index list that an index list of the result comes from
abbrev pub kept_places : List ℤ → List ℕ → List ℕ
kept_places (count ∷ counts) (i ∷ index) = kept_place count i ∷ kept_places counts index
kept_places counts index = []

-- the source of the item at an index list
abbrev pub drop_source : ArrayValue → ArrayValue → List ℕ → Source
drop_source a b index = Place 1 (uncounted b (kept_places (numbers a) index))

-- the item at an index list
abbrev pub drop_item : ArrayValue → ArrayValue → List ℕ → Result Item Kind
drop_item a b index = item_from a b b.item_type (drop_source a b index)

-- the whole result
abbrev pub drop_whole : ArrayValue → ArrayValue → Result ArrayValue Kind
drop_whole a b = whole (drop_form a b) (drop_item a b)

-- The change rule of drop.

-- the axis of the result for an axis of n places, with the image of an interval
abbrev pub kept : ℕ → ℤ → Axis
kept n (pos count) = record { len = n - count; source = kept_place (pos count); image = λ s. (s.0 - count, s.1 - count) }
kept n (negsuc count) = record { len = n - suc count; source = kept_place (negsuc count); image = λ s. s }

abbrev pub kept_axes : List ℕ → List ℤ → List Axis
kept_axes (n ∷ shape) (count ∷ counts) = kept n count ∷ kept_axes shape counts
kept_axes shape counts = []

-- each interval is replaced by its image
abbrev pub drop_box : List ℕ → ArrayValue → ArrayValue → Spread
drop_box shape a b region = Some (images (kept_axes (counted_shape a b) (numbers a)) (counted_box a b region))

-- the counts are a selector
abbrev pub drop_rule : RuleModel
drop_rule = two_sourced true drop_form (λ a b. b.item_type) drop_source (λ shape a b region. None) drop_box
