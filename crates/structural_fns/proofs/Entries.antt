-- The entries of a dyadic transpose.
use Rattle.std.{proofs.Common.{◌≡◌, ℕ, suc, ◌+◌, ◌-◌, ◌<◌, nat_eq, List, ◌∷◌, length, refl, arith}, specs.List.{range_with_len}, proofs.lemmas.Bool.{eqb-true}}
use Rattle.{arrays_core.specs.Arrays.{ArrayValue}, index_region.{specs.Arguments.{is_list}, specs.Answers.{IsPlaceOf}, proofs.Passing.{passed}}}
use Rattle.structural_fns.specs.DyadicTranspose.{transpose_by_form}

-- a range, split after its first number
pub range_more : (n k : ℕ) → k < n → range_with_len (k + 1) (n - k) ≡ (k + 1) ∷ range_with_len (k + 1 + 1) (n - (k + 1))
range_more n k h =
    let e : n - k ≡ suc (n - (k + 1)) = omega arith in
    let f : k + 1 + 1 ≡ suc (k + 1) = omega arith in
    rw (e, f) refl

-- after the checks have passed, there is an entry for each axis
pub entries_long : (a b : ArrayValue) (index : List ℕ) → IsPlaceOf (transpose_by_form a b) index → length a.items ≡ length b.shape
entries_long a b index h =
    eqb-true (length a.items) (length b.shape) (passed (nat_eq (length a.items) (length b.shape)) _ _ index (passed (is_list a) _ _ index h).place).test
