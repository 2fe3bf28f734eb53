-- Take, A↑B: the first or last places of each axis, with fill beyond them.
use Rattle.std.specs.Prelude.{ℕ, suc, ◌+◌, ◌-◌, ◌≤◌, ℤ, pos, negsuc, if◌then◌else◌, List, [], ◌∷◌, length, get_or, Result, true, Some, None}
use Rattle.arrays_core.{specs.declared.item.Item.{Item}, specs.declared.item.Kind.{Kind}, specs.Arrays.{ArrayValue}, specs.Shapes.{is_index_of}}
use Rattle.index_region.{specs.Checks.{Form, whole}, specs.Arguments.{numbers}, specs.Sources.{Place, Fill, Source, item_from}}
use Rattle.change_core.{specs.RuleModels.{RuleModel}, specs.Ways.{Axis, images}, specs.Sourced.{Spread, two_sourced}}
use Rattle.structural_fns.{specs.Reshape.{magnitudes}, specs.AxisCounts.{counted_shape, uncounted, counted_form, counted_box}}

-- the checks, and the shape and the type of the result
abbrev pub take_form : ArrayValue → ArrayValue → Result Form Kind
take_form a b = counted_form (magnitudes a) a b

-- the place, on an axis of n places, that place i of the result comes from: a positive count takes the first places, a negative one the
-- last. There is none if it is 0 or beyond n
abbrev pub taken_place : ℕ → ℤ → ℕ → ℕ
taken_place n (pos count) i = i
taken_place n (negsuc count) i = i + n - suc count

-- the index list that an index list of the result comes from
abbrev pub taken_places : List ℕ → List ℤ → List ℕ → List ℕ
taken_places (n ∷ shape) (count ∷ counts) (i ∷ index) = taken_place n count i ∷ taken_places shape counts index
taken_places shape counts index = []

-- the source of the item at an index list
abbrev pub take_source : ArrayValue → ArrayValue → List ℕ → Source
take_source a b index =
    let place = taken_places (counted_shape a b) (numbers a) index in
    if is_index_of (counted_shape a b) place then Place 1 (uncounted b place) else Fill

-- the item at an index list
abbrev pub take_item : ArrayValue → ArrayValue → List ℕ → Result Item Kind
take_item a b index = item_from a b b.item_type (take_source a b index)

-- `kept` places of a row, after the first `before`, lie on the last axis
abbrev pub AreOnLastAxis : ArrayValue → ArrayValue → List ℕ → ℕ → ℕ → Type 0
AreOnLastAxis a b row before kept =
    let n = get_or (counted_shape a b) (length row) 0 in
    let count = get_or (numbers a) (length row) (pos 0) in
    (1 ≤ taken_place n count (before + 1)) × (taken_place n count (before + kept) ≤ n)

-- the whole result
abbrev pub take_whole : ArrayValue → ArrayValue → Result ArrayValue Kind
take_whole a b = whole (take_form a b) (take_item a b)

-- The change rule of take.

-- the axis of the result for an axis of n places, with the image of an interval
abbrev pub taken : ℕ → ℤ → Axis
taken n (pos count) = record { len = count; source = taken_place n (pos count); image = λ s. s }
taken n (negsuc count) = record { len = suc count; source = taken_place n (negsuc count); image = λ s. (s.0 + suc count - n, s.1 + suc count - n) }

abbrev pub taken_axes : List ℕ → List ℤ → List Axis
taken_axes (n ∷ shape) (count ∷ counts) = taken n count ∷ taken_axes shape counts
taken_axes shape counts = []

-- each interval is replaced by its image
abbrev pub take_box : List ℕ → ArrayValue → ArrayValue → Spread
take_box shape a b region = Some (images (taken_axes (counted_shape a b) (numbers a)) (counted_box a b region))

-- the counts are a selector
abbrev pub take_rule : RuleModel
take_rule = two_sourced true take_form (λ a b. b.item_type) take_source (λ shape a b region. None) take_box
