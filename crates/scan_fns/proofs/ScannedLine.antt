-- The items of a scan on one line, from the numbers of the line.
use Rattle.std.{proofs.Common.{◌≡◌, ℕ, zero, suc, ◌+◌, ◌-◌, ◌<◌, ◌≤◌, List, [], ◌∷◌, length, get_or, map, take, set, insert, remove, ℤ, Result, Ok, Err, refl, ap, sym, ◌∙◌, arith}, specs.List.{range_with_len}, proofs.lemmas.Bool.{le-leb}}
use Rattle.std.{proofs.lemmas.List.{length-map, length-take, take-take, take-map, get_or-set_same, get_or_default}, proofs.lemmas.List.FromFn.{length-map-range_with_len}, proofs.lemmas.Simd.{map-map}}
use Rattle.arrays_core.{specs.declared.item.Item.TheVariants.{Num}, specs.declared.item.ItemType.TheVariants.{Nums}, specs.declared.item.Kind.{Kind}, specs.Limits.{longest_axis}, specs.Items.{all_or_first_error, after}, specs.Arrays.{ArrayValue, item_of, with_items, vector_of}}
use Rattle.function_names.{specs.declared.scalar.Scalar2.{Scalar2}, specs.declared.along.Along.{Along}, specs.Axes.{axis_at}}
use Rattle.item_fns.{specs.Numbers.{dyadic_on_numbers}, specs.Items.{number_item}, specs.NumberLists.{number_items}, specs.Folds.{folded}, specs.RightFold.{fold_right}, proofs.ItemFolds.{some_folded, folded_numbers}}
use Rattle.{index_region.specs.Axes.{places_along}, reduce_fns.{specs.Lines.{line}, proofs.ListResults.{as_many_as}, proofs.Firsts.{same_rules}}}
use Rattle.scan_fns.{specs.LinearScan.{folds_from}, specs.Scan.{scan_item, scan_along}}

-- ---- numbers as the items of a vector

results_as_items : (rs : List (Result ℤ Kind)) → number_items (all_or_first_error rs) ≡ all_or_first_error (map number_item rs)
results_as_items [] = refl
results_as_items (Err k ∷ rs) = refl
results_as_items (Ok z ∷ rs) = moved z (all_or_first_error rs) ∙ ap (after (Num z)) (results_as_items rs)
  where
    moved : (z : ℤ) (r : Result (List ℤ) Kind) → number_items (after z r) ≡ after (Num z) (number_items r)
    moved z (Ok zs) = refl
    moved z (Err k) = refl

pub vector_is : (zs : List ℤ) (n : ℕ) → length zs ≡ n → n ≤ longest_axis → vector_of zs ≡ with_items Nums (n ∷ []) (Ok (map (λ z. Num z) zs))
vector_is zs n long few = rw (long, le-leb n longest_axis few) refl

-- the number of folds
pub folds_from_long : (f : ℤ → ℤ → Result ℤ Kind) (zs folds : List ℤ) (first : ℕ) → folds_from f zs first ≡ Ok folds → length folds ≡ length zs + 1 - first
folds_from_long f zs folds first h = as_many_as _ folds h ∙ length-map-range_with_len (λ before. folded f (take (first + before) zs)) 0 (length zs + 1 - first)

-- the number of numbers read from a line
pub as_many : (zs : List ℤ) (b : ArrayValue) (axis : ℕ) (others : List ℕ) (last : ℕ) → axis < length b.shape → map (λ z. Num z) zs ≡ take last (line b axis others) → last ≤ get_or b.shape axis 0 → length zs ≡ last
as_many zs b axis others last there read high =
    let places = length-map-range_with_len (λ j. item_of b (insert others axis j)) 1 (places_along b.shape axis) in
    omega (arith, length-map zs (λ z. Num z), ap length read, length-take last (line b axis others), places, get_or_default b.shape axis 1 0 there)

-- ---- index lists on a line

remove_set : (axis j : ℕ) (index : List ℕ) → remove (set index axis j) axis ≡ remove index axis
remove_set zero j [] = refl
remove_set zero j (i ∷ index) = refl
remove_set (suc axis) j [] = refl
remove_set (suc axis) j (i ∷ index) = ap (λ rest. i ∷ rest) (remove_set axis j index)

-- ---- the items

module _ (f : Scalar2) (along : Along) (b : ArrayValue) (index : List ℕ) (last : ℕ) (zs : List ℤ) (there : axis_at (length b.shape) along < length index)
    (read : map (λ z. Num z) zs ≡ take last (line b (axis_at (length b.shape) along) (remove index (axis_at (length b.shape) along)))) (long : length zs ≡ last) where
  abbrev axis : ℕ
  axis = axis_at (length b.shape) along

  -- the item at a place of the line
  item_there : (k : ℕ) → 1 ≤ k → k ≤ last → number_item (folded (dyadic_on_numbers f) (take k zs)) ≡ scan_item f along b (set index axis k)
  item_there k low high =
      let taken : length (take k zs) ≡ k = omega (arith, length-take k zs) in
      let items = length-map (take k zs) (λ z. Num z) in
      sym (folded_numbers f (take k zs))
      ∙ sym (some_folded f (map (λ z. Num z) (take k zs)) (omega arith))
      ∙ ap (fold_right f) (sym (take-map (λ z. Num z) k zs) ∙ ap (take k) read ∙ take-take k last _ high)
      ∙ ap (λ m. fold_right f (take m (line b axis (remove index axis)))) (sym (get_or-set_same index axis k 1 there))
      ∙ ap (λ others. fold_right f (take (get_or (set index axis k) axis 1) (line b axis others))) (sym (remove_set axis k index))

  pub along_is : 1 ≤ get_or index axis 1 → get_or index axis 1 ≤ last
      → with_items Nums ((length zs + 1 - get_or index axis 1) ∷ []) (number_items (folds_from (dyadic_on_numbers f) zs (get_or index axis 1))) ≡ scan_along f along b index last
  along_is low high =
      let first = get_or index axis 1 in
      let n = last + 1 - first in
      let number : ℕ → Result ℤ Kind = λ before. folded (dyadic_on_numbers f) (take (first + before) zs) in
      ap (λ m. with_items Nums ((m + 1 - first) ∷ []) (number_items (all_or_first_error (map number (range_with_len 0 (m + 1 - first)))))) long
      ∙ ap (with_items Nums (n ∷ [])) (results_as_items (map number (range_with_len 0 n)))
      ∙ ap (λ ys. with_items Nums (n ∷ []) (all_or_first_error ys)) (map-map number_item number (range_with_len 0 n)
      ∙ same_rules _ (λ before. scan_item f along b (set index axis (first + before))) n (λ before below. item_there (first + before) (omega arith) (omega arith)))
