-- The part of an array behind some places of each axis.
use Rattle.std.{proofs.Common.{◌≡◌, ℕ, zero, suc, ◌+◌, ◌^◌, ◌<◌, ◌≤◌, List, [], ◌∷◌, ◌++◌, length, get_or, map, true, Result, Ok, refl, ap, sym, ◌∙◌, arith}, specs.List.{All, range_with_len}}
use Rattle.std.proofs.{lemmas.List.{get_or_default}, lemmas.List.FromFn.{length-map-range_with_len, get_or-map-range_with_len}}
use Rattle.arrays_core.{specs.declared.item.Item.{Item}, specs.declared.item.ItemType.{ItemType}, specs.declared.item.Kind.{Kind}, specs.Items.{fill}, specs.Arrays.{ArrayValue, item_of, collect, with_items}, specs.Shapes.{size, is_index_of, index_after}, specs.Building.{IsRowOf}}
use Rattle.arrays_core.proofs.{Shapes.{as_long}, Order.{given_in_order, index_after-within}}
use Rattle.index_region.proofs.OnAxes.{on_axis}
use Rattle.structural_fns.specs.Part.{behind, part_item, IsPart}

-- the lists end with the shorter one
pub record NoLonger (before index : List ℕ) : Type 0 where
  pub left : length (behind before index) ≤ length before
  pub right : length (behind before index) ≤ length index

pub no_longer : (before index : List ℕ) → NoLonger before index
no_longer [] index = record { left = omega arith; right = omega arith }
no_longer (n ∷ before) [] = record { left = omega arith; right = omega arith }
no_longer (n ∷ before) (i ∷ index) = let rest = no_longer before index in record { left = omega (arith, rest.left); right = omega (arith, rest.right) }

pub behind_long : (before index : List ℕ) → length index ≡ length before → length (behind before index) ≡ length before
behind_long [] index h = refl
behind_long (n ∷ before) [] h = absurd (omega arith)
behind_long (n ∷ before) (i ∷ index) h = ap suc (behind_long before index (omega arith))

pub behind_at : (before index : List ℕ) (k : ℕ) → k < length (behind before index) → get_or (behind before index) k 0 ≡ get_or before k 0 + get_or index k 0
behind_at [] index k h = absurd (omega arith)
behind_at (n ∷ before) [] k h = absurd (omega arith)
behind_at (n ∷ before) (i ∷ index) zero h = refl
behind_at (n ∷ before) (i ∷ index) (suc k) h = behind_at before index k (omega arith)

-- further indices are left out
behind_whole : (before index rest : List ℕ) → length index ≡ length before → behind before (index ++ rest) ≡ behind before index
behind_whole [] index rest h = refl
behind_whole (n ∷ before) [] rest h = absurd (omega arith)
behind_whole (n ∷ before) (i ∷ index) rest h = ap (λ xs. (n + i) ∷ xs) (behind_whole before index rest (omega arith))

pub part_index : (axes before shape index rest : List ℕ) → IsPart axes before shape → is_index_of shape index ≡ true → behind before (index ++ rest) ≡ behind before index
part_index axes before shape index rest part h = behind_whole before index rest (as_long shape index h ∙ part.ranks ∙ sym part.as_many)

-- the index lists of a row differ in the last index
pub behind_row : (before row : List ℕ) (i : ℕ) → length before ≡ length row + 1 → behind before (row ++ i ∷ []) ≡ behind before row ++ (get_or before (length row) 0 + i) ∷ []
behind_row [] row i h = absurd (omega arith)
behind_row (n ∷ []) [] i h = refl
behind_row (n ∷ m ∷ before) [] i h = absurd (omega arith)
behind_row (n ∷ before) (j ∷ row) i h = ap (λ xs. (n + j) ∷ xs) (behind_row before row i (omega arith))

-- the index lists of a row lie in the array
pub row_inside : (axes before shape row : List ℕ) (count : ℕ) → IsPart axes before shape → IsRowOf shape row count → (j : ℕ) → j < count
    → is_index_of axes (behind before (row ++ (0 + j + 1) ∷ [])) ≡ true
row_inside axes before shape row count part known j h = part.inside (row ++ (0 + j + 1) ∷ []) (known.places (0 + j + 1) (omega arith) (omega arith))

-- the indices of an index list are small numbers
pub small_indices : (axes index : List ℕ) → All (λ n. n ≤ 1048576) axes → is_index_of axes index ≡ true → All (λ n. n < 2 ^ 32) index
small_indices axes index within h =
    λ k d below.
    let long = as_long axes index h in
    let on = on_axis axes index k h (omega arith) in
    let bound : get_or axes k 0 ≤ 1048576 = within k 0 (omega arith) in
    let same = get_or_default index k d 0 below in
    omega (arith, on.high)

-- the whole result of a rule that returns the items of a part
pub part_collected : (item_type : ItemType) (shape before : List ℕ) (b : ArrayValue) (rule : List ℕ → Result Item Kind)
    → ((index : List ℕ) → is_index_of shape index ≡ true → rule index ≡ part_item b before index) → collect item_type shape rule ≡ collect item_type shape (part_item b before)
part_collected item_type shape before b rule same =
    let item = λ (k : ℕ). item_of b (behind before (index_after shape k)) in
    let items = map item (range_with_len 0 (size shape)) in
    let d = fill b.item_type in
    let long : length items ≡ size shape = length-map-range_with_len item 0 (size shape) in
    let listed : (k : ℕ) → k < size shape → part_item b before (index_after shape k) ≡ Ok (get_or items k d) = λ k h. ap (λ (x : Item). Ok x) (sym (get_or-map-range_with_len item 0 (size shape) k k d h (omega arith))) in
    ap (with_items item_type shape)
    (given_in_order shape rule items d long (λ k h. same (index_after shape k) (index_after-within shape k h) ∙ listed k h)
    ∙ sym (given_in_order shape (part_item b before) items d long listed))
