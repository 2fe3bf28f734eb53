-- Rows and columns of arrays, and inner products.
use Rattle.std.{proofs.Common.{◌≡◌, ℕ, ◌+◌, ◌<◌, List, [], ◌∷◌, ◌++◌, length, Result, Ok, Err, refl, sym, ◌∙◌, arith}, proofs.lemmas.List.FromFn.{length-map-range_with_len, get_or-map-range_with_len, fill_by_all}}
use Rattle.arrays_core.{specs.declared.item.Item.{Item}, specs.declared.item.Kind.{Kind}, specs.Items.{and_then}, specs.Arrays.{ArrayValue}}
use Rattle.{function_names.specs.declared.scalar.Scalar2.{Scalar2}, scalar_fns.specs.ScalarExtension.{extended}}
use Rattle.item_fns.{specs.Items.{dyadic_on_items}, specs.Folds.{folded}, specs.RightFold.{fold_right}, proofs.ItemFolds.{some_folded}}
use Rattle.operator_fns.{specs.InnerProduct.{inner_length, all_or_last_error, products}, specs.RowByColumn.{all_met, folded_all}}

-- ---- the fold of a row and a column
one_longer : (x : Result Item Kind) (rest : Result (List Item) Kind) (items : List Item) → and_then rest (λ items. and_then x (λ item. Ok (item ∷ items))) ≡ Ok items → 0 < length items
one_longer (Ok x) (Ok rest) items h = let e : items ≡ x ∷ rest = cc in rw e (omega arith)
one_longer (Err k) (Ok rest) items h = cc
one_longer x (Err k) items h = cc

some_all : (rs : List (Result Item Kind)) (items : List Item) → 0 < length rs → all_or_last_error rs ≡ Ok items → 0 < length items
some_all [] items h e = absurd (omega arith)
some_all (x ∷ rs) items h e = one_longer x (all_or_last_error rs) items e

then_folded : (f : Scalar2) (r : Result (List Item) Kind) → ((items : List Item) → r ≡ Ok items → 0 < length items)
    → and_then r (fold_right f) ≡ and_then r (folded (dyadic_on_items f))
then_folded f (Ok items) some = some_folded f items (some items refl)
then_folded f (Err k) some = refl

pub fold_of_some : (f : Scalar2) (rs : List (Result Item Kind)) → 0 < length rs → and_then (all_or_last_error rs) (fold_right f) ≡ folded_all (dyadic_on_items f) rs
fold_of_some f rs h = then_folded f (all_or_last_error rs) (λ items e. some_all rs items h e)

pub products_met : (g : Scalar2) (a b : ArrayValue) (row column : List ℕ) (left right : ℕ → Item) (count : ℕ) → count ≡ inner_length a b
    → ((k : ℕ) → k < count → left k ≡ extended a (row ++ (k + 1) ∷ []))
    → ((k : ℕ) → k < count → right k ≡ extended b ((k + 1) ∷ column))
    → products g a b row column ≡ all_met (dyadic_on_items g) left right count
products_met g a b row column left right count e is_left is_right =
    let f = λ (j : ℕ). dyadic_on_items g (extended a (row ++ j ∷ [])) (extended b (j ∷ column)) in
    fill_by_all (λ k. dyadic_on_items g (left k) (right k)) (products g a b row column) count (f 0) (length-map-range_with_len f 1 (inner_length a b) ∙ sym e) (λ k below.
    get_or-map-range_with_len f 1 (inner_length a b) k (k + 1) (f 0) (omega arith) (omega arith) ∙ (rw (is_left k below, is_right k below) refl))
