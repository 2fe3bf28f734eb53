-- A digit, from the rest that its radix leaves.
use Rattle.std.{proofs.Common.{◌≡◌, ◌∙◌, ◌+◌, ◌-◌, ◌*◌, ◌%◌, ◌^◌, ap, subst, refl, arith, of_z, to_z, Bool, true, false, if◌then◌else◌, ℤ, pos, negsuc, ◌-ℤ◌, ◌*ℤ◌, Ok, SFits, w64}, specs.Ordering.{int_eq}, specs.Int.{int_wrap}}
use Rattle.std.{proofs.lemmas.Int.{ints, wrapping_sub-bits, wrapping_mul-bits, int_wrap_fits, int_wrap-sub_right, to_z-of_z}, proofs.Math.Facts.{Fits-of_z}, proofs.Math.Nat.{mod-lt}, proofs.lemmas.Bool.Decides.{Decides-int_eq}}
use Rattle.item_fns.{specs.Numbers.{residue, floor_div, number_or_limit}, specs.Residue.{IsFromZeroBelow}, proofs.Floors.{held_ok}, proofs.Rests.{residue_is_rest}}
use Rattle.search_fns.specs.Encode.{carried}

-- a number between 0 and a 64-bit number fits 64 bits
rest_fits : (a r : ℤ) → SFits w64 a → IsFromZeroBelow a r → SFits w64 r
rest_fits (pos a) (pos r) f h = let high = f.sfits in record { sfits = omega (arith, ints, h) }
rest_fits (pos a) (negsuc r) f h = absurd (omega (arith, ints, h))
rest_fits (negsuc a) (negsuc r) f h = let low = f.sfits in record { sfits = omega (arith, ints, h) }
rest_fits (negsuc a) (pos r) f h = record { sfits = omega (arith, ints, h) }

-- the machine's difference and product, written in bits
abbrev pub machine_rest : (radix z left : ℤ) → ℤ
machine_rest radix z left = to_z w64 ((of_z w64 z + (2 ^ 64 - of_z w64 radix * of_z w64 left % 2 ^ 64)) % 2 ^ 64)

machine_is : (radix z left : ℤ) → SFits w64 radix → SFits w64 z → SFits w64 left → machine_rest radix z left ≡ int_wrap w64 (z -ℤ radix *ℤ left)
machine_is radix z left f g h =
    let product = of_z w64 radix * of_z w64 left % 2 ^ 64 in
    let product_is : to_z w64 product ≡ int_wrap w64 (radix *ℤ left) =
    wrapping_mul-bits w64 (of_z w64 radix) (of_z w64 left) (Fits-of_z f).fits (Fits-of_z h).fits
    ∙ ap (λ y. int_wrap w64 (y *ℤ to_z w64 (of_z w64 left))) (to_z-of_z w64 radix f)
    ∙ ap (λ y. int_wrap w64 (radix *ℤ y)) (to_z-of_z w64 left h) in
    wrapping_sub-bits w64 (of_z w64 z) product (Fits-of_z g).fits (mod-lt (of_z w64 radix * of_z w64 left) (omega arith))
    ∙ ap (λ y. int_wrap w64 (y -ℤ to_z w64 product)) (to_z-of_z w64 z g)
    ∙ ap (λ y. int_wrap w64 (z -ℤ y)) product_is
    ∙ int_wrap-sub_right w64 z (radix *ℤ left)

pub digit_by_left : (radix z left : ℤ) → SFits w64 radix → SFits w64 z → SFits w64 left → carried radix z ≡ Ok left
    → machine_rest radix z left ≡ residue radix z
digit_by_left radix z left f g h is = machine_is radix z left f g h ∙ decide (int_eq radix (pos 0)) refl is
  where
    decide : (b : Bool) → int_eq radix (pos 0) ≡ b → (if b then Ok (pos 0) else number_or_limit (floor_div z radix)) ≡ Ok left
        → int_wrap w64 (z -ℤ radix *ℤ left) ≡ (if b then z else z -ℤ radix *ℤ floor_div z radix)
    decide true zero is =
        let whole : z -ℤ radix *ℤ left ≡ z = rw ((Decides-int_eq radix (pos 0)).0 zero) (omega (arith, ints)) in
        ap (int_wrap w64) whole ∙ int_wrap_fits w64 z g
    decide false some is =
        let same : residue radix z ≡ z -ℤ radix *ℤ floor_div z radix = rw some refl in
        let fits : SFits w64 (z -ℤ radix *ℤ floor_div z radix) = subst (SFits w64) same (rest_fits radix (residue radix z) f (residue_is_rest radix z some).between) in
        ap (λ q. int_wrap w64 (z -ℤ radix *ℤ q)) (held_ok _ _ is) ∙ int_wrap_fits w64 _ fits
