use Rattle.std.{proofs.Common.{◌≡◌, ◌∙◌, ◌+◌, ◌^◌, ◌<◌, ◌≤◌, [], ◌∷◌, ℤ, subst, arith, rules, pos, ◌+ℤ◌, to_z, of_z, w64, unsigned_abs, FitsSigned}, specs.Int.{int_min, int_max}, proofs.lemmas.Int.{ints, clamps, to_z-of_z, fits_signed_from_abs}}
use Rattle.fold_trees.{specs.Sums.{IsSummaryOf, sums_of}, proofs.JoinedSums.{sums_eq}}
use Rattle.fold_trees.proofs.summary.Summary.near_pair.Goals as goal

-- numbers that are near add up within 64 bits
abs_sum : (x y : ℤ) → unsigned_abs (x +ℤ y) ≤ unsigned_abs x + unsigned_abs y
abs_sum x y = omega (arith, ints)

near_sum : (x y : ℤ) → unsigned_abs x < 2 ^ 61 → unsigned_abs y < 2 ^ 61 → FitsSigned w64 x → FitsSigned w64 y → to_z w64 (of_z w64 (to_z w64 (of_z w64 x) +ℤ to_z w64 (of_z w64 y))) ≡ x +ℤ y
near_sum x y h k f g =
    (λ i. to_z w64 (of_z w64 (to_z-of_z w64 x f i +ℤ to_z-of_z w64 y g i))) ∙ to_z-of_z w64 (x +ℤ y) (fits_signed_from_abs w64 (x +ℤ y) (omega (arith, abs_sum x y, h, k)))

-- the sums of two numbers, in the order of the computation
two : (l r : ℤ) → record { total = l +ℤ r; least = int_min (int_min (l +ℤ r) r) (pos 0); greatest = int_max (int_max (l +ℤ r) r) (pos 0) } ≡ sums_of (l ∷ r ∷ [])
two l r = sums_eq _ _ (omega (arith, ints)) (omega (arith, ints, clamps)) (omega (arith, ints, clamps))

pub returns : goal.returns
returns c =
    let l = c.args.left in
    let r = c.args.right in
    let read : to_z w64 (of_z w64 r) ≡ r = to_z-of_z w64 r c.ranges.right in
    let sum : to_z w64 (of_z w64 (to_z w64 (of_z w64 l) +ℤ to_z w64 (of_z w64 r))) ≡ l +ℤ r = near_sum l r c.requires.left c.requires.right c.ranges.left c.ranges.right in
    let least : to_z w64 (of_z w64 c.min.result) ≡ int_min (l +ℤ r) r = to_z-of_z w64 c.min.result (search rules) ∙ c.min.ensures.value ∙ (λ i. int_min (sum i) (read i)) in
    let least2 : to_z w64 (of_z w64 c.min-2.result) ≡ int_min (int_min (l +ℤ r) r) (pos 0) = to_z-of_z w64 c.min-2.result (search rules) ∙ c.min-2.ensures.value ∙ (λ i. int_min (least i) (pos 0)) in
    let most : to_z w64 (of_z w64 c.max.result) ≡ int_max (l +ℤ r) r = to_z-of_z w64 c.max.result (search rules) ∙ c.max.ensures.value ∙ (λ i. int_max (sum i) (read i)) in
    let most2 : to_z w64 (of_z w64 c.max-2.result) ≡ int_max (int_max (l +ℤ r) r) (pos 0) = to_z-of_z w64 c.max-2.result (search rules) ∙ c.max-2.ensures.value ∙ (λ i. int_max (most i) (pos 0)) in
    subst (IsSummaryOf c.of_narrow.result) (sums_eq _ _ sum least2 most2 ∙ two l r) c.of_narrow.ensures
