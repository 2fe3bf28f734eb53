-- The numbers or truth values that the identity of a function leaves unchanged.
use Rattle.std.{proofs.Common.{◌≡◌, [], ◌∷◌, ℕ, suc, ◌*◌, ◌/◌, ◌^◌, refl, ap, ◌∙◌, arith, Bool, true, false, Ok, ℤ, pos, negsuc, neg_ℤ, ◌+ℤ◌, ◌-ℤ◌, ◌*ℤ◌, SFits, w64}, proofs.Math.Nat.{div-one, pow-zero}, proofs.lemmas.Grind.{pow_more}, proofs.lemmas.Int.{ints, clamps}}
use Rattle.arrays_core.proofs.CaseWords.{◌⇒◌, AllSame}
use Rattle.function_names.specs.declared.scalar.Scalar2.TheVariants.{Plus, Minus, Times, Divide, Power, Residue, Maximum, Minimum, Less, LessOrEqual, Equal, GreaterOrEqual, Greater, NotEqual, And, Or}
use Rattle.item_fns.{specs.Numbers.{number_or_limit, dyadic_on_numbers, truth}, specs.Identities.{least, greatest}, proofs.Residues.{quotient_whole}, proofs.Within.{held}}

by_value : (y z : ℤ) → y ≡ z → SFits w64 z → number_or_limit y ≡ Ok z
by_value y z e f = ap number_or_limit e ∙ held z f

plus_zero : (a : ℤ) → SFits w64 a → dyadic_on_numbers Plus a (pos 0) ≡ Ok a
plus_zero a f = by_value (a +ℤ pos 0) a (omega (arith, ints)) f

minus_zero : (a : ℤ) → SFits w64 a → dyadic_on_numbers Minus a (pos 0) ≡ Ok a
minus_zero a f = by_value (a -ℤ pos 0) a (omega (arith, ints)) f

times_one : (a : ℤ) → SFits w64 a → dyadic_on_numbers Times a (pos 1) ≡ Ok a
times_one a f = by_value (a *ℤ pos 1) a (omega (arith, ints)) f

zero_residue : (a : ℤ) → dyadic_on_numbers Residue (pos 0) a ≡ Ok a
zero_residue a = refl

divided_by_one : (a : ℤ) → SFits w64 a → dyadic_on_numbers Divide a (pos 1) ≡ Ok a
divided_by_one (pos n) f =
    quotient_whole (pos n) (pos 1) refl (rw (div-one n) (omega (arith, ints)))
    ∙ by_value (pos (n / 1)) (pos n) (ap pos (div-one n)) f
divided_by_one (negsuc n) f =
    quotient_whole (negsuc n) (pos 1) refl (rw (div-one n) (omega (arith, ints)))
    ∙ by_value (neg_ℤ (pos (suc n / 1))) (negsuc n) (ap (λ m. neg_ℤ (pos m)) (div-one (suc n))) f

one_exponent : (n : ℕ) → n ^ 1 ≡ n
one_exponent n = pow_more n 0 ∙ ap (λ x. x * n) (pow-zero n) ∙ omega arith

power_one : (a : ℤ) → SFits w64 a → dyadic_on_numbers Power a (pos 1) ≡ Ok a
power_one (pos n) f = by_value (pos (n ^ 1)) (pos n) (ap pos (one_exponent n)) f
power_one (negsuc n) f = by_value (neg_ℤ (pos (suc n ^ 1))) (negsuc n) (ap (λ m. neg_ℤ (pos m)) (one_exponent (suc n))) f

maximum_least : (a : ℤ) → SFits w64 a → dyadic_on_numbers Maximum a least ≡ Ok a
maximum_least (pos n) f = ap Ok (omega (arith, ints, clamps))
maximum_least (negsuc n) f = let h = f.sfits in ap Ok (omega (arith, ints, clamps))

minimum_greatest : (a : ℤ) → SFits w64 a → dyadic_on_numbers Minimum a greatest ≡ Ok a
minimum_greatest (pos n) f = let h = f.sfits in ap Ok (omega (arith, ints, clamps))
minimum_greatest (negsuc n) f = ap Ok (omega (arith, ints, clamps))

-- on truth values
on_truth_values : (p : Bool) → AllSame (
    dyadic_on_numbers Or (truth p) (pos 0) ⇒ Ok (truth p) ∷
    dyadic_on_numbers And (truth p) (pos 1) ⇒ Ok (truth p) ∷
    dyadic_on_numbers Less (pos 0) (truth p) ⇒ Ok (truth p) ∷
    dyadic_on_numbers LessOrEqual (pos 1) (truth p) ⇒ Ok (truth p) ∷
    dyadic_on_numbers Equal (truth p) (pos 1) ⇒ Ok (truth p) ∷
    dyadic_on_numbers GreaterOrEqual (truth p) (pos 1) ⇒ Ok (truth p) ∷
    dyadic_on_numbers Greater (truth p) (pos 0) ⇒ Ok (truth p) ∷
    dyadic_on_numbers NotEqual (truth p) (pos 0) ⇒ Ok (truth p) ∷
    [])
on_truth_values true = refl
on_truth_values false = refl
