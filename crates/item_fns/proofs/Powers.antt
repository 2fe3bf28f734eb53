-- Powers of 0, 1 and -1, and powers that are too great.
use Rattle.std.{proofs.Common.{◌≡◌, ℕ, zero, suc, ◌+◌, ◌*◌, ◌%◌, ◌^◌, ◌<◌, ◌≤◌, ◌==◌, refl, ap, sym, ◌∙◌, inl, inr, arith, true, false, Ok, Err, ℤ, pos, negsuc, neg_ℤ, unsigned_abs, int_lt, int_rem, of_z, w64}, specs.Int.{int_pow, FitsUnsignedBits}, proofs.Math.Nat.{pow-le-pow_left, pow-le-pow_right}}
use Rattle.std.{proofs.Math.Dec.{eqb-suc-zero}, proofs.lemmas.Bool.{le-ltb, cases_Bool, eq-eqb, eqb-true, cases_lt, false_from_ne_true, true≢false}, proofs.lemmas.Grind.{pow_more}}
use Rattle.{arrays_core.specs.declared.item.Kind.TheVariants.{Limit}, item_fns.specs.Numbers.{number_or_limit, power, truth}}

one_more : (b n : ℕ) → b ^ suc n ≡ b ^ n * b
one_more b n = let e : suc n ≡ n + 1 = omega arith in ap (λ k. b ^ k) e ∙ pow_more b n

one_pow : (n : ℕ) → 1 ^ n ≡ 1
one_pow zero = refl
one_pow (suc n) = one_more 1 n ∙ ap (λ x. x * 1) (one_pow n)

zero_pow : (n : ℕ) → 0 ^ suc n ≡ 0
zero_pow n = one_more 0 n ∙ omega arith

pub power_of_one : (b : ℤ) → power (pos 1) b ≡ Ok (pos 1)
power_of_one (pos n) = ap (λ x. number_or_limit (pos x)) (one_pow n)
power_of_one (negsuc n) = ap (λ x. Ok (pos x)) (one_pow (suc n))

power_of_zero : (n : ℕ) → power (pos 0) (pos n) ≡ Ok (truth (n == 0))
power_of_zero zero = refl
power_of_zero (suc n) = ap (λ x. number_or_limit (pos x)) (zero_pow n) ∙ ap (λ t. Ok (truth t)) (sym (eqb-suc-zero n))

too_great : (m : ℕ) → 2 ^ 63 < m → number_or_limit (pos m) ≡ Err Limit
too_great m h = let far = le-ltb m (2 ^ 63) (omega arith) in rw far refl

too_low : (m : ℕ) → 2 ^ 63 < m → number_or_limit (neg_ℤ (pos m)) ≡ Err Limit
too_low zero h = absurd (omega arith)
too_low (suc m) h = let far = le-ltb m (2 ^ 63) (omega arith) in rw far refl

-- from exponent 64 on, the powers of numbers from 2 on are out of range
far_power : (a n : ℕ) → 2 ≤ a → 64 ≤ n → 2 ^ 63 < a ^ n
far_power a n h k =
    let by_base : 2 ^ n ≤ a ^ n = pow-le-pow_left h n in
    let by_exponent : 2 ^ 64 ≤ 2 ^ n = pow-le-pow_right {n = 2} (omega arith) k in
    omega arith

power_too_great : (a : ℤ) (n : ℕ) → 2 ≤ unsigned_abs a → 64 ≤ n → power a (pos n) ≡ Err Limit
power_too_great (pos a) n h k = too_great (a ^ n) (far_power a n h k)
power_too_great (negsuc a) n h k =
    elim (cases_Bool (n % 2 == 0)) [
      | inl even ↦ rw even (too_great (suc a ^ n) (far_power (suc a) n h k))
      | inr odd ↦ rw odd (too_low (suc a ^ n) (far_power (suc a) n h k))
    ]

pub power_of_zero_is : (b : ℤ) → int_lt b (pos 0) ≡ false → power (pos 0) b ≡ Ok (truth (of_z w64 b == 0))
power_of_zero_is (pos n) h = power_of_zero n
power_of_zero_is (negsuc n) h = absurd (true≢false h)

no_rest : (r : ℕ) → r < 2 → of_z w64 (neg_ℤ (pos r)) ≡ 0 → r ≡ 0
no_rest zero small h = refl
no_rest (suc r) small h = absurd (omega arith)

even_is : (n : ℕ) → n % 2 ≡ 0 → int_pow (negsuc 0) n ≡ pos 1
even_is n h = let even : (n % 2 == 0) ≡ true = eq-eqb (n % 2) 0 h in rw (even, one_pow n) refl

odd_is : (n : ℕ) → (n % 2 ≡ 0 → ⊥) → int_pow (negsuc 0) n ≡ negsuc 0
odd_is n h = rw (false_from_ne_true _ (λ t. h (eqb-true (n % 2) 0 t)), one_pow n) refl

pub even_power : (b : ℤ) → of_z w64 (int_rem b (pos 2)) ≡ 0 → power (negsuc 0) b ≡ Ok (pos 1)
even_power (pos n) h = ap number_or_limit (even_is n h)
even_power (negsuc n) h = ap Ok (even_is (suc n) (no_rest (suc n % 2) (omega arith) h))

pub odd_power : (b : ℤ) → (of_z w64 (int_rem b (pos 2)) ≡ 0 → ⊥) → power (negsuc 0) b ≡ Ok (negsuc 0)
odd_power (pos n) h = ap number_or_limit (odd_is n h)
odd_power (negsuc n) h = ap Ok (odd_is (suc n) (λ e. h (ap (λ r. of_z w64 (neg_ℤ (pos r))) e)))

-- a number other than 0, 1 and -1 has a magnitude of at least 2
two_or_more : (a : ℤ) → (of_z w64 a ≡ 0 → ⊥) → (of_z w64 a ≡ 1 → ⊥) → (of_z w64 a ≡ 18446744073709551615 → ⊥) → 2 ≤ unsigned_abs a
two_or_more (pos n) none one minus_one = omega arith
two_or_more (negsuc zero) none one minus_one = absurd (minus_one refl)
two_or_more (negsuc (suc n)) none one minus_one = omega arith

pub far_exponent : (a b : ℤ) → (of_z w64 a ≡ 0 → ⊥) → (of_z w64 a ≡ 1 → ⊥) → (of_z w64 a ≡ 18446744073709551615 → ⊥)
    → int_lt b (pos 0) ≡ false → (FitsUnsignedBits 32 b → ⊥) → power a b ≡ Err Limit
far_exponent a (pos n) none one minus_one positive far =
    power_too_great a n (two_or_more a none one minus_one) (elim (cases_lt n 64) [ inl near ↦ absurd (far (omega arith)) | inr is ↦ is ])
far_exponent a (negsuc n) none one minus_one positive far = absurd (true≢false positive)
