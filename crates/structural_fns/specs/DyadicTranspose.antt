-- Dyadic transpose, A⍉B: axis i of b becomes axis A[i].
use Rattle.std.{specs.Prelude.{ℕ, ◌+◌, ◌-◌, if◌then◌else◌, max, min, nat_eq, ℤ, pos, int_le, unsigned_abs, Bool, ◌&&◌, List, [], ◌∷◌, map, length, get_or, zip, Result, true, Some, None}, specs.List.{filter, list_all, list_any, range_with_len}}
use Rattle.arrays_core.{specs.declared.item.Item.{Item}, specs.declared.item.Kind.{Kind}, specs.declared.item.Kind.TheVariants.{Rank, Length, Domain}, specs.Arrays.{ArrayValue}, specs.Shapes.{size}}
use Rattle.index_region.{specs.Checks.{check, Form, limited, whole}, specs.Arguments.{is_list, counts_as_numbers, numbers}, specs.Sources.{Place, Source, item_from}}
use Rattle.change_core.{specs.RuleModels.{RuleModel}, specs.Sourced.{Spread, two_sourced}, specs.Ways.{meets}}

-- the axes that the axes of b go to, counted from 1
abbrev pub axes_to : ArrayValue → List ℕ
axes_to a = map unsigned_abs (numbers a)

-- the greatest of a list; 0 of none
abbrev pub greatest_of : List ℕ → ℕ
greatest_of [] = 0
greatest_of (n ∷ rest) = max n (greatest_of rest)

-- the least of a list; 0 of none
abbrev pub least_of : List ℕ → ℕ
least_of [] = 0
least_of (n ∷ []) = n
least_of (n ∷ m ∷ rest) = min n (least_of (m ∷ rest))

-- none is below 1
abbrev pub all_positive : List ℤ → Bool
all_positive zs = list_all (λ z. int_le (pos 1) z) zs

-- an axis of b goes to axis j
abbrev pub occurs : List ℕ → ℕ → Bool
occurs axes j = list_any (λ k. nat_eq k j) axes

-- every axis up to the greatest is named, and no entry is below 1
abbrev pub are_axes : List ℤ → Bool
are_axes zs =
    let axes = map unsigned_abs zs in
    all_positive zs && list_all (occurs axes) (range_with_len 1 (greatest_of axes))

-- the lengths of the axes that go to axis j
abbrev pub lengths_at : List ℕ → List ℕ → ℕ → List ℕ
lengths_at axes shape j = map (λ p. p.1) (filter (λ p. nat_eq p.0 j) (zip axes shape))

-- an axis that several axes go to has their least length
abbrev pub transposed_shape : List ℕ → List ℕ → List ℕ
transposed_shape axes shape = map (λ j. least_of (lengths_at axes shape j)) (range_with_len 1 (greatest_of axes))

-- the checks, and the shape and the type of the result
abbrev pub transpose_by_form : ArrayValue → ArrayValue → Result Form Kind
transpose_by_form a b =
    check (is_list a) Rank
    (check (nat_eq (length a.items) (length b.shape)) Length
    (check (counts_as_numbers a && are_axes (numbers a)) Domain
    (limited (transposed_shape (axes_to a) b.shape) b.item_type)))

-- all axes that go to one take its index
abbrev pub gathered : List ℕ → List ℕ → List ℕ
gathered axes index = map (λ j. get_or index (j - 1) 0) axes

-- the distance in b of items with adjacent indices on axis r of the result, counted from 0: the sizes behind the axes that go there, added up
abbrev pub stride_to : List ℕ → List ℕ → ℕ → ℕ
stride_to (n ∷ shape) (j ∷ axes) r = (if nat_eq (j - 1) r then size shape else 0) + stride_to shape axes r
stride_to shape axes r = 0

-- the source of the item at an index list
abbrev pub transpose_by_source : ArrayValue → ArrayValue → List ℕ → Source
transpose_by_source a b index = Place 1 (gathered (axes_to a) index)

-- the item at an index list
abbrev pub transpose_by_item : ArrayValue → ArrayValue → List ℕ → Result Item Kind
transpose_by_item a b index = item_from a b b.item_type (transpose_by_source a b index)

-- the whole result
abbrev pub transpose_by_whole : ArrayValue → ArrayValue → Result ArrayValue Kind
transpose_by_whole a b = whole (transpose_by_form a b) (transpose_by_item a b)

-- The change rule of A⍉B: on each axis, the part in all changed intervals that go there; everything if A changed.

-- the axes that the axes of b go to, counted from 0
abbrev pub axes_from_zero : ArrayValue → List ℕ
axes_from_zero a = map (λ j. j - 1) (axes_to a)

-- the box: the part of each axis of the result that lies in all intervals which go to it
abbrev pub transpose_by_box : List ℕ → ArrayValue → Spread
transpose_by_box shape a region = Some (meets (axes_from_zero a) region 0 shape)

-- each item reads the place that it is copied from, which A selects
abbrev pub transpose_by_rule : RuleModel
transpose_by_rule = two_sourced true transpose_by_form (λ a b. b.item_type) transpose_by_source (λ shape a b region. None) (λ shape a b. transpose_by_box shape a)
