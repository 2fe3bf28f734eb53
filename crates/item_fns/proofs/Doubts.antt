-- Words of doubt that are 0.
use Rattle.std.{proofs.Common.{◌≡◌, ℕ, zero, suc, ◌+◌, ◌*◌, ◌/◌, ◌<◌, ◌≤◌, refl, arith, ap, sym, subst, ◌∙◌, [], ◌∷◌, Result, ℤ, pos, negsuc, ◌+ℤ◌, ◌-ℤ◌, ◌*ℤ◌, unsigned_abs, of_z, Bool, true, false, Ok, w64, SFits}, specs.Int.{int_wrapping_add, int_wrapping_sub, int_wrapping_mul, int_bit_xor, int_max, int_shl, int_shr}, specs.Int.Bits.{bit_or, bit_xor, xor_add_and}, proofs.lemmas.Int.{ints, clamps, wrapping_sub_is, wrapping_mul_is, int_wrap_fits, fits_signed_mul}, proofs.lemmas.Nat.{le_or_l, le_or_r, and_le_l, and_le_r}}
use Rattle.{arrays_core.{specs.declared.item.Kind.{Kind}, specs.Items.{and_then}}, function_names.specs.declared.scalar.Scalar2.TheVariants.{Plus}}
use Rattle.item_fns.{specs.Numbers.{dyadic_on_numbers, number_or_limit, truth, as_truth, opposite}, specs.Folds.{folded}, specs.AtOnce.{IsNear, IsTruth}, specs.Laws.AtOnce.{near_fits, near_sum}, proofs.Within.{held, held_ok}}

-- the fold of four numbers before a fold, by steps
pub four_steps : (f : ℤ → ℤ → Result ℤ Kind) (x y z w v a b c d : ℤ) → f w v ≡ Ok a → f z a ≡ Ok b → f y b ≡ Ok c → f x c ≡ Ok d → folded f (x ∷ y ∷ z ∷ w ∷ v ∷ []) ≡ Ok d
four_steps f x y z w v a b c d fourth third second first =
    ap (λ r. and_then (and_then (and_then r (f z)) (f y)) (f x)) fourth ∙ ap (λ r. and_then (and_then r (f y)) (f x)) third ∙ ap (λ r. and_then r (f x)) second ∙ first

pub none_left : (m n : ℕ) → bit_or m n ≡ 0 → m ≡ 0
none_left m n h = omega (arith, le_or_l m n, h)

pub none_right : (m n : ℕ) → bit_or m n ≡ 0 → n ≡ 0
none_right m n h = omega (arith, le_or_r m n, h)

-- numbers whose exclusive or is 0 are equal
pub same_bits : (m n : ℕ) → bit_xor m n ≡ 0 → m ≡ n
same_bits m n h = omega (arith, xor_add_and m n, and_le_l m n, and_le_r m n, h)

pub below_left : (m n s : ℕ) → bit_or m n < s → m < s
below_left m n s h = omega (arith, le_or_l m n, h)

pub below_right : (m n s : ℕ) → bit_or m n < s → n < s
below_right m n s h = omega (arith, le_or_r m n, h)

pub truth_of_bits : (z : ℤ) → SFits w64 z → of_z w64 z < 2 → IsTruth z
truth_of_bits (pos zero) fit h = record { value = false; is = refl }
truth_of_bits (pos (suc zero)) fit h = record { value = true; is = refl }
truth_of_bits (pos (suc (suc n))) fit h = let inside = fit.sfits in absurd (omega (arith, ints))
truth_of_bits (negsuc n) fit h = let inside = fit.sfits in absurd (omega (arith, ints))

pub half_sum : (a b : ℤ) → IsNear 2305843009213693952 a → IsNear 2305843009213693952 b → SFits w64 a → SFits w64 b → number_or_limit (a +ℤ b) ≡ Ok (int_wrapping_add w64 a b)
half_sum a b h k f g =
    let fits = near_fits (a +ℤ b) (record { low = omega (arith, ints, h.low, k.low); high = omega (arith, ints, h.high, k.high) }) in
    held (a +ℤ b) fits ∙ ap Ok (sym (near_sum a b f g fits))

-- a sum of numbers within bounds
record Near (m : ℕ) (a b : ℤ) : Type 0 where
  gives : number_or_limit (a +ℤ b) ≡ Ok (int_wrapping_add w64 a b)
  near : IsNear m (int_wrapping_add w64 a b)

near_step : (m n : ℕ) (a b : ℤ) → m + n < 9223372036854775808 → IsNear m a → IsNear n b → Near (m + n) a b
near_step m n a b few h k =
    let near : IsNear (m + n) (a +ℤ b) = record { low = omega (arith, ints, h.low, k.low); high = omega (arith, ints, h.high, k.high) } in
    let f = near_fits a (record { low = omega (arith, ints, h.low); high = omega (arith, ints, h.high) }) in
    let g = near_fits b (record { low = omega (arith, ints, k.low); high = omega (arith, ints, k.high) }) in
    let fits = near_fits (a +ℤ b) (record { low = omega (arith, ints, near.low); high = omega (arith, ints, near.high) }) in
    let is = near_sum a b f g fits in
    record { gives = held (a +ℤ b) fits ∙ ap Ok (sym is); near = subst (IsNear (m + n)) (sym is) near }

-- sums of five numbers
pub five_sum : (x y z w v : ℤ) → IsNear 1152921504606846976 x → IsNear 1152921504606846976 y → IsNear 1152921504606846976 z → IsNear 1152921504606846976 w → IsNear 1152921504606846976 v
    → folded (dyadic_on_numbers Plus) (x ∷ y ∷ z ∷ w ∷ v ∷ []) ≡ Ok (int_wrapping_add w64 x (int_wrapping_add w64 y (int_wrapping_add w64 z (int_wrapping_add w64 w v))))
five_sum x y z w v h i j k l =
    let bound : ℕ = 1152921504606846976 in
    let f = dyadic_on_numbers Plus in
    let two = near_step bound bound w v (omega arith) k l in
    let three = near_step bound (bound + bound) z _ (omega arith) j two.near in
    let four = near_step bound (bound + (bound + bound)) y _ (omega arith) i three.near in
    let five = near_step bound (bound + (bound + (bound + bound))) x _ (omega arith) h four.near in
    four_steps f x y z w v _ _ _ _ two.gives three.gives four.gives five.gives

-- a difference that fits is the wrapping difference
pub near_difference : (a b : ℤ) → SFits w64 a → SFits w64 b → SFits w64 (a -ℤ b) → int_wrapping_sub w64 a b ≡ a -ℤ b
near_difference a b f g h = wrapping_sub_is w64 a b f g ∙ int_wrap_fits w64 (a -ℤ b) h

pub half_difference : (a b : ℤ) → IsNear 2305843009213693952 a → IsNear 2305843009213693952 b → SFits w64 a → SFits w64 b → number_or_limit (a -ℤ b) ≡ Ok (int_wrapping_sub w64 a b)
half_difference a b h k f g =
    let fits = near_fits (a -ℤ b) (record { low = omega (arith, ints, h.low, k.high); high = omega (arith, ints, h.high, k.low) }) in
    held (a -ℤ b) fits ∙ ap Ok (sym (near_difference a b f g fits))

pub within_bound : (z : ℤ) (n : ℕ) → IsNear n z → unsigned_abs z ≤ n
within_bound (pos m) n h = omega (arith, ints, h.high)
within_bound (negsuc m) n h = omega (arith, ints, h.low)

pub short_product : (a b : ℤ) → IsNear 1073741824 a → IsNear 1073741824 b → SFits w64 a → SFits w64 b → number_or_limit (a *ℤ b) ≡ Ok (int_wrapping_mul w64 a b)
short_product a b h k f g =
    let fits = fits_signed_mul w64 a b 1073741824 1073741824 (within_bound a 1073741824 h) (within_bound b 1073741824 k) (omega arith) in
    held (a *ℤ b) fits ∙ ap Ok (sym (wrapping_mul_is w64 a b f g ∙ int_wrap_fits w64 (a *ℤ b) fits))

shifted_back : (z : ℤ) → int_shr (z *ℤ pos 4294967296) 32 ≡ z
shifted_back (pos n) =
    let value : pos n *ℤ pos 4294967296 ≡ pos (n * 4294967296) = omega (arith, ints) in
    let back : n * 4294967296 / 4294967296 ≡ n = omega arith in
    ap (λ x. int_shr x 32) value ∙ ap pos back
shifted_back (negsuc n) =
    let value : negsuc n *ℤ pos 4294967296 ≡ negsuc (n * 4294967296 + 4294967295) = omega (arith, ints) in
    let back : (n * 4294967296 + 4294967295) / 4294967296 ≡ n = omega arith in
    ap (λ x. int_shr x 32) value ∙ ap negsuc back

-- a short number, shifted by half a word and back
pub short_half : (z : ℤ) → SFits w64 z → IsNear 1073741824 z → int_shr (int_shl w64 z 32) 32 ≡ z
short_half z f h =
    let word : SFits w64 (pos 4294967296) = record { sfits = omega arith } in
    let fits = fits_signed_mul w64 z (pos 4294967296) 1073741824 4294967296 (within_bound z 1073741824 h) (omega arith) (omega arith) in
    ap (λ x. int_shr x 32) (wrapping_mul_is w64 z (pos 4294967296) f word ∙ int_wrap_fits w64 (z *ℤ pos 4294967296) fits) ∙ shifted_back z

pub magnitude_is : (b r : ℤ) → SFits w64 b → number_or_limit (pos 0 -ℤ b) ≡ Ok r → number_or_limit (pos (unsigned_abs b)) ≡ Ok (int_max b r)
magnitude_is (pos n) r f h = let same : r ≡ pos 0 -ℤ pos n = (held_ok (pos 0 -ℤ pos n) r h).same in held (pos n) f ∙ ap Ok (omega (arith, ints, clamps))
magnitude_is (negsuc n) r f h =
    let same : r ≡ pos 0 -ℤ negsuc n = (held_ok (pos 0 -ℤ negsuc n) r h).same in
    let value : pos (unsigned_abs (negsuc n)) ≡ pos 0 -ℤ negsuc n = omega (arith, ints) in
    ap number_or_limit value ∙ h ∙ ap Ok (omega (arith, ints, clamps))

not_truth : (v : Bool) → opposite (as_truth (truth v)) ≡ Ok (int_bit_xor w64 (truth v) (pos 1))
not_truth true = refl
not_truth false = refl

pub not_is : (b : ℤ) → IsTruth b → opposite (as_truth b) ≡ Ok (int_bit_xor w64 b (pos 1))
not_is b h = rw h.is (not_truth h.value)
