-- Replicate: each place of an axis, as many times as its count. A scalar is a vector of one item.
use Rattle.std.{specs.Prelude.{◌≡◌, ℕ, suc, ◌-◌, nat_eq, ℤ, pos, int_le, Bool, IsTrue, max, unsigned_abs, ◌&&◌, ◌||◌, if◌then◌else◌, List, [], ◌∷◌, ◌++◌, map, length, get_or, set, replicate, insert, remove, sum, Result, true, take, Some, None}, specs.List.{list_all}}
use Rattle.arrays_core.{specs.declared.item.Item.{Item}, specs.declared.item.Kind.{Kind}, specs.declared.item.Kind.TheVariants.{Axis, Rank, Length, Domain}, specs.Arrays.{ArrayValue, item_of}}
use Rattle.function_names.{specs.declared.along.Along.{Along}, specs.Axes.{is_axis, axis_at}}
use Rattle.index_region.{specs.Checks.{Form, check, limited, whole}, specs.Sources.{Place, Source, item_from}, specs.Arguments.{is_scalar, is_list, has_one_item, counts_as_numbers, number_of, numbers, none_negative}, specs.Axes.{places_along}, specs.Boxes.{Interval, whole_of}}
use Rattle.change_core.{specs.RuleModels.{RuleModel}, specs.Sourced.{Spread, on_axis, two_sourced}}

-- a count of 0 or 1
abbrev pub is_bit : ℤ → Bool
is_bit z = int_le (pos 0) z && int_le z (pos 1)

-- counts that are each 0 or 1, and their sum
pub record IsMask (counts : List ℤ) (total : ℕ) : Type 0 where
  pub bits : IsTrue (list_all is_bit counts)
  pub copies : total ≡ sum (map unsigned_abs counts)

-- the number of copies of each place of an axis of length n; a single count applies to all places
abbrev pub times : ArrayValue → ℕ → List ℕ
times a n = if has_one_item a then replicate n (unsigned_abs (number_of (item_of a []))) else map unsigned_abs (numbers a)

-- the shape with the number of copies as the length of the axis
abbrev pub replicated_shape : ArrayValue → List ℕ → ℕ → List ℕ
replicated_shape a shape axis = insert (remove shape axis) axis (sum (times a (places_along shape axis)))

-- the checks of the counts for an axis of length n, and then the rest
abbrev pub counts_checked : ArrayValue → ℕ → Result Form Kind → Result Form Kind
counts_checked a n rest =
    check (is_list a) Rank
    (check (has_one_item a || (nat_eq n 1 || nat_eq (length a.items) n)) Length
    (check (counts_as_numbers a && none_negative (numbers a)) Domain rest))

-- AXIS, and then the checks of the counts; then the shape with the number of copies as the length of the axis
abbrev pub replicate_form : Along → ArrayValue → ArrayValue → Result Form Kind
replicate_form along a b =
    let rank = max 1 (length b.shape) in
    let axis = axis_at rank along in
    check (is_axis rank along) Axis
    (counts_checked a (places_along b.shape axis)
    (limited (replicated_shape a b.shape axis) b.item_type))

-- the places from k on, each as many times as its count
abbrev pub places_repeated : ℕ → List ℕ → List ℕ
places_repeated k [] = []
places_repeated k (count ∷ counts) = replicate count k ++ places_repeated (suc k) counts

-- the place of copy i, where each place has a count
abbrev pub maker : List ℕ → ℕ → ℕ
maker counts i = get_or (places_repeated 1 counts) (i - 1) 1

-- the place of copy i; on an axis of length 1 it is 1
abbrev pub copied_place : ArrayValue → ℕ → ℕ → ℕ
copied_place a n i = if nat_eq n 1 then 1 else maker (times a n) i

-- each item comes from b, at the place of the copy; a scalar b has one item
abbrev pub replicate_source : Along → ArrayValue → ArrayValue → List ℕ → Source
replicate_source along a b index =
    let axis = axis_at (max 1 (length b.shape)) along in
    let place = copied_place a (places_along b.shape axis) (get_or index axis 1) in
    Place 1 (if is_scalar b then [] else set index axis place)

-- the item at that place
abbrev pub replicate_item : Along → ArrayValue → ArrayValue → List ℕ → Result Item Kind
replicate_item along a b index = item_from a b b.item_type (replicate_source along a b index)

-- the checks, and then the items
abbrev pub replicate_whole : Along → ArrayValue → ArrayValue → Result ArrayValue Kind
replicate_whole along a b = whole (replicate_form along a b) (replicate_item along a b)

-- The change rule of replicate, A/B.

-- the number of copies of the first places of an axis of length n
abbrev pub copies_before : ArrayValue → ℕ → ℕ → ℕ
copies_before a n places = sum (take places (times a n))

-- the copies of the places of an interval; on an axis of length 1, all copies
abbrev pub copied_interval : ArrayValue → ℕ → ℕ → Interval → Interval
copied_interval a n copies s = if nat_eq n 1 then (1, copies) else (suc (copies_before a n (s.0 - 1)), copies_before a n s.1)

-- on the axis the copies of the changed places; all copies of a scalar
abbrev pub replicate_box : Along → List ℕ → ArrayValue → ArrayValue → Spread
replicate_box along shape a b region =
    let axis = axis_at (max 1 (length b.shape)) along in
    if is_scalar b then Some (whole_of shape)
    else on_axis axis (copied_interval a (places_along b.shape axis) (get_or shape axis 0)) region

-- the counts are a selector
abbrev pub replicate_rule : Along → RuleModel
replicate_rule along = two_sourced true (replicate_form along) (λ a b. b.item_type) (replicate_source along) (λ shape a b region. None) (replicate_box along)
