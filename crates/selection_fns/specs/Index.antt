-- Indexed reference, A[I;..]: a position is an array of indices, or is empty and stands for its whole axis.
use Rattle.std.{specs.Prelude.{ℕ, suc, nat_eq, ℤ, pos, int_le, unsigned_abs, Bool, true, false, not, ◌&&◌, List, [], ◌∷◌, ◌++◌, length, get_or, take, drop, zip, Option, Some, None, Result, Err, zero, ◌+◌, map, if◌then◌else◌}, specs.List.{list_all}}
use Rattle.arrays_core.{specs.declared.item.Item.{Item}, specs.declared.item.Kind.{Kind}, specs.declared.item.Kind.TheVariants.{Rank, Length, Domain, Index}, specs.Arrays.{ArrayValue, item_of}, specs.Shapes.{size, index_after}}
use Rattle.index_region.{specs.Checks.{Form, check, limited, whole}, specs.Sources.{Place, Source, item_from}, specs.Arguments.{is_scalar, counts_as_numbers, number_of, numbers}, specs.Boxes.{Interval, whole_of, join_boxes}}
use Rattle.change_core.{specs.RuleModels.{Use, RuleModel}, specs.Places.{lies_in}, specs.Sourced.{Spread, left_used}}
use Rattle.selection_fns.specs.Growth.{index_grows}

-- the indices on one axis; None for the whole axis
abbrev pub Position : Type 0
Position = Option ArrayValue

-- a written position is of numbers, or has no items
abbrev pub are_numbers : Position → Bool
are_numbers (Some p) = counts_as_numbers p
are_numbers None = true

-- an index is on an axis of n places
abbrev pub is_on_axis : ℕ → ℤ → Bool
is_on_axis n z = int_le (pos 1) z && int_le z (pos n)

-- all indices of a position are on its axis
abbrev pub is_on : ℕ → Position → Bool
is_on n (Some p) = list_all (is_on_axis n) (numbers p)
is_on n None = true

-- each position is on its axis
abbrev pub are_on : List ℕ → List Position → Bool
are_on shape positions = list_all (λ p. is_on p.0 p.1) (zip shape positions)

-- the axes of the result that a position gives: its own, or the axis that it takes whole
abbrev pub position_axes : ℕ → Position → List ℕ
position_axes n (Some p) = p.shape
position_axes n None = n ∷ []

-- the axes of all positions, joined
abbrev pub indexed_shape : List ℕ → List Position → List ℕ
indexed_shape (n ∷ shape) (position ∷ positions) = position_axes n position ++ indexed_shape shape positions
indexed_shape shape positions = []

-- the checks of the positions, and then the rest
abbrev pub positions_checked : ArrayValue → List Position → Result Form Kind → Result Form Kind
positions_checked a positions rest =
    check (not (is_scalar a) && nat_eq (length positions) (length a.shape)) Rank
    (check (list_all are_numbers positions) Domain
    (check (are_on a.shape positions) Index rest))

-- the checks of the positions, and then the joined axes
abbrev pub index_form : ArrayValue → List Position → Result Form Kind
index_form a positions = positions_checked a positions (limited (indexed_shape a.shape positions) a.item_type)

-- the index list in the indexed array: each position takes its part of the result's index list, and gives the index on its axis
abbrev pub source_index : List Position → List ℕ → List ℕ
source_index [] index = []
source_index (None ∷ positions) index = get_or index 0 0 ∷ source_index positions (drop 1 index)
source_index (Some p ∷ positions) index =
    unsigned_abs (number_of (item_of p (take (length p.shape) index))) ∷ source_index positions (drop (length p.shape) index)

-- each item comes from the indexed array
abbrev pub index_source : List Position → List ℕ → Source
index_source positions index = Place 0 (source_index positions index)

-- the item at that place
abbrev pub index_item : ArrayValue → List Position → List ℕ → Result Item Kind
index_item a positions index = item_from a a a.item_type (index_source positions index)

-- the checks, and then the items
abbrev pub index_whole : ArrayValue → List Position → Result ArrayValue Kind
index_whole a positions = whole (index_form a positions) (index_item a positions)

-- ---- argument lists: the indexed array, and then the written positions

-- the positions, by which of them are written
abbrev pub written_positions : List Bool → List ArrayValue → List Position
written_positions (true ∷ written) (p ∷ args) = Some p ∷ written_positions written args
written_positions (false ∷ written) args = None ∷ written_positions written args
written_positions written args = []

-- the number of written positions
abbrev pub count_written : List Bool → ℕ
count_written [] = 0
count_written (true ∷ written) = suc (count_written written)
count_written (false ∷ written) = count_written written

-- applies a function of the array and its positions to an argument list; an empty list, which no call has, is LENGTH
abbrev pub of_array_and_positions : {A : Type 0} → List Bool → (ArrayValue → List Position → Result A Kind) → List ArrayValue → Result A Kind
of_array_and_positions written f [] = Err Length
of_array_and_positions written f (a ∷ args) = f a (written_positions written args)

-- The change rule of indexed reference, A[I;..].

-- the place of an axis that an index names
abbrev pub place_named : Item → ℕ
place_named item = unsigned_abs (number_of item)

-- the box of one place
abbrev pub point : List ℕ → List Interval
point index = map (λ i. (i, i)) index

-- the least box of the places that pass a test, among the first n places of a shape
abbrev pub least_box : List ℕ → (List ℕ → Bool) → ℕ → Option (List Interval)
least_box shape test zero = None
least_box shape test (suc n) =
    if test (index_after shape n) then join_boxes (Some (point (index_after shape n))) (least_box shape test n) else least_box shape test n

-- two boxes joined, the axes of one before those of the other; None if either is None
abbrev pub beside : Option (List Interval) → Option (List Interval) → Option (List Interval)
beside None b = None
beside (Some a) None = None
beside (Some a) (Some b) = Some (a ++ b)

-- the least box of the places of a position whose indices name a place of the interval
abbrev pub position_box : ArrayValue → Interval → Option (List Interval)
position_box p s = least_box p.shape (λ part. lies_in s (place_named (item_of p part))) (size p.shape)

-- by the indexed array: an empty position contributes its interval, a written one the least box of its places that name a changed one
abbrev pub indexed_box : List Position → Spread
indexed_box (None ∷ positions) (s ∷ region) = beside (Some (s ∷ [])) (indexed_box positions region)
indexed_box (Some p ∷ positions) (s ∷ region) = beside (position_box p s) (indexed_box positions region)
indexed_box positions region = Some []

-- the axes of the argument are `rank` axes of the result, after `before` others; all other axes are whole
abbrev pub axes_used : List ℕ → ℕ → ℕ → Use
axes_used shape before rank = record {
  reads = λ index. take rank (drop before index) ∷ [];
  box = λ region. Some (whole_of (take before shape) ++ (region ++ whole_of (drop (before + rank) shape)));
}

-- each written position has its axes of the result, after those of the positions before it
abbrev pub position_uses : List ℕ → ℕ → List Position → List Use
position_uses shape before [] = []
position_uses shape before (None ∷ positions) = position_uses shape (before + 1) positions
position_uses shape before (Some p ∷ positions) = axes_used shape before (length p.shape) ∷ position_uses shape (before + length p.shape) positions

abbrev pub index_uses : List Bool → List ℕ → List ArrayValue → List Use
index_uses written shape [] = []
index_uses written shape (a ∷ args) =
    let positions = written_positions written args in
    left_used (index_source positions) (indexed_box positions) ∷ position_uses shape 0 positions

-- no position is a selector
abbrev pub unselected : List Bool → List Bool
unselected [] = []
unselected (true ∷ written) = false ∷ unselected written
unselected (false ∷ written) = unselected written

-- the rule: the indexed array, and then the written positions
abbrev pub index_rule : List Bool → RuleModel
index_rule written = record {
  selectors = false ∷ unselected written;
  form = λ args. of_array_and_positions written index_form args;
  item = λ args index. of_array_and_positions written (λ a positions. index_item a positions index) args;
  uses = λ shape args. index_uses written shape args;
  grows = index_grows written;
}
