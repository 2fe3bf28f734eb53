-- The number of axes of the arguments of an inner product.
use Rattle.std.{proofs.Common.{◌≡◌, ◌≢◌, ℕ, zero, suc, ◌+◌, ◌-◌, ◌<◌, ◌≤◌, Bool, true, false, List, [], ◌∷◌, ◌++◌, length, get_or, take, drop, Result, Ok, refl, ap, arith}, proofs.lemmas.Bool.{and_parts, leb-true}, proofs.lemmas.List.{length-append, length-drop, length-take}}
use Rattle.arrays_core.{specs.declared.item.Kind.{Kind}, specs.declared.item.ItemType.{ItemType}, specs.Arrays.{ArrayValue}, specs.Limits.{most_axes}}
use Rattle.index_region.{specs.ArgumentLists.{of_two_arguments}, specs.Boxes.{Interval}, specs.Checks.{Form, check, form_of, is_within_limits, limited}, proofs.Boxes.{fits_length}}
use Rattle.{change_core.specs.RuleModels.{FitsAt, HasShape}, operator_fns.specs.InnerProduct.{row_rank, inner_form}}

-- checks that yield a shape have passed
rest_of_checks : (holds : Bool) (kind : Kind) (rest : Result Form Kind) (shape : List ℕ) → HasShape (check holds kind rest) shape → HasShape rest shape
rest_of_checks true kind rest shape h = h
rest_of_checks false kind rest shape h = absurd h

passed_limits : (holds : Bool) (kind : Kind) (form : Form) (shape : List ℕ) → HasShape (check holds kind (Ok form)) shape → holds ≡ true
passed_limits true kind form shape h = refl
passed_limits false kind form shape h = absurd h

-- a result has at most `most_axes` axes
few_axes : (axes : List ℕ) (item_type : ItemType) (shape : List ℕ) → HasShape (limited axes item_type) shape → length axes ≤ most_axes
few_axes axes item_type shape h = leb-true _ _ (and_parts _ _ (and_parts _ _ (passed_limits (is_within_limits axes) _ (form_of axes item_type) shape h)).0).0

-- a bound on the axes: the left argument but the last, and a box of the right argument but the first
pub few_rows_and_columns : (args : List ArrayValue) (a : ArrayValue) (which : ℕ) (region : List Interval) (shape : List ℕ) → length args ≡ 2 → a ≡ get_or args 0 a → which < length args → which ≢ 0
    → FitsAt args which region → HasShape (of_two_arguments inner_form args) shape → length a.shape - 1 + (length region - 1) ≤ most_axes
few_rows_and_columns [] a which region shape n e u o fit h = absurd (omega arith)
few_rows_and_columns (x ∷ []) a which region shape n e u o fit h = absurd (omega arith)
few_rows_and_columns (x ∷ y ∷ z ∷ rest) a which region shape n e u o fit h = absurd (omega arith)
few_rows_and_columns (x ∷ y ∷ []) a zero region shape n e u o fit h = absurd (omega (arith, o))
few_rows_and_columns (x ∷ y ∷ []) a (suc (suc k)) region shape n e u o fit h = absurd (omega arith)
few_rows_and_columns (x ∷ y ∷ []) a (suc zero) region shape n e u o fit h =
    let axes = take (row_rank x) x.shape ++ drop 1 y.shape in
    let few : length axes ≤ most_axes = few_axes axes _ shape (rest_of_checks _ _ (limited axes _) shape h) in
    let same : length a.shape ≡ length x.shape = ap (λ (b : ArrayValue). length b.shape) e in
    omega (arith, length-append (take (row_rank x) x.shape) (drop 1 y.shape), length-take (row_rank x) x.shape, length-drop 1 y.shape, fits_length region y.shape fit)
