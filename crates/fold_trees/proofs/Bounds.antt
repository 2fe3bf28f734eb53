-- The least and the greatest of 64-bit numbers, and of one more.
use Rattle.std.{proofs.Common.{◌≡◌, refl, sym, arith, Bool, true, false, ◌&&◌, ℤ, ◌≤ℤ◌}, specs.Int.{int_max, int_min}, proofs.lemmas.Int.{ints, clamps}, proofs.lemmas.Bool.{and_from, and_parts}}
use Rattle.item_fns.{specs.Numbers.{is_number}, proofs.Within.{in_64_bits, is_in_64_bits}}

same_test : (p q : Bool) → (p ≡ true → q ≡ true) → (q ≡ true → p ≡ true) → p ≡ q
same_test true true f g = refl
same_test true false f g = sym (f refl)
same_test false true f g = g refl
same_test false false f g = refl

-- with one more product all are within 64 bits if and only if the earlier ones are, and the new one is
pub one_more : (low high z : ℤ) → low ≤ℤ high → (is_number (int_min low z) && is_number (int_max high z)) ≡ ((is_number low && is_number high) && is_number z)
one_more low high z h = same_test _ _ there back
  where
    there : (is_number (int_min low z) && is_number (int_max high z)) ≡ true → ((is_number low && is_number high) && is_number z) ≡ true
    there e =
        let both = and_parts (is_number (int_min low z)) (is_number (int_max high z)) e in
        let down = (in_64_bits (int_min low z) both.0).low in
        let up = (in_64_bits (int_max high z) both.1).high in
        and_from _ _
        (and_from _ _
        (is_in_64_bits low (record { low = omega (arith, ints, clamps); high = omega (arith, ints, clamps) }))
        (is_in_64_bits high (record { low = omega (arith, ints, clamps); high = omega (arith, ints, clamps) })))
        (is_in_64_bits z (record { low = omega (arith, ints, clamps); high = omega (arith, ints, clamps) }))

    back : ((is_number low && is_number high) && is_number z) ≡ true → (is_number (int_min low z) && is_number (int_max high z)) ≡ true
    back e =
        let all = and_parts (is_number low && is_number high) (is_number z) e in
        let both = and_parts (is_number low) (is_number high) all.0 in
        let first = in_64_bits low both.0 in
        let second = in_64_bits high both.1 in
        let third = in_64_bits z all.1 in
        and_from _ _
        (is_in_64_bits (int_min low z) (record { low = omega (arith, ints, clamps); high = omega (arith, ints, clamps) }))
        (is_in_64_bits (int_max high z) (record { low = omega (arith, ints, clamps); high = omega (arith, ints, clamps) }))
