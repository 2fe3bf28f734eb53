-- Digits by a power of two: a run of the bits of a number, and the bits above them.
use Rattle.std.{proofs.Common.{◌≡◌, ℕ, suc, ◌+◌, ◌-◌, ◌*◌, ◌/◌, ◌%◌, ◌^◌, ◌<◌, ◌≤◌, refl, ap, sym, ◌∙◌, inl, inr, arith, ℤ, pos, negsuc, false, SFits, of_z, to_z, w64, Ok, IsTrue}, specs.Int.{int_shr}, specs.Int.Bits.{bit_and}, specs.Int.Signed.{mag_shr}, specs.Ordering.{int_eq}, proofs.Math.IntN.{pos-*ℤ-negsuc}}
use Rattle.std.{proofs.Math.Pow.{low, high, pow_mono}, proofs.Math.Nat.{mod-lt, mod-eq_of_lt, mul-le-mul_right, div-one, div-div-eq-div-mul}, proofs.lemmas.Nat.{and_mask, pow-add, pow_pos, div-add-mod'}, proofs.lemmas.Int.{to_z_pos, ints}, proofs.lemmas.Bool.{cases_lt}, proofs.lemmas.Bool.Decides.{nat_tests}}
use Rattle.{item_fns.{specs.Numbers.{residue, floor_div, is_number, number_or_limit}, proofs.Floors.{not_zero}, proofs.Within.{held}}, search_fns.specs.Encode.{carried}}

is_some : (b : ℕ) → int_eq (pos (2 ^ b)) (pos 0) ≡ false
is_some b = not_zero (pos (2 ^ b)) (λ e. let some = pow_pos b in omega (arith, ints))

-- ---- numbers of 64 bits

pub number_fits : (z : ℤ) → SFits w64 z → IsTrue (is_number z)
number_fits (pos n) f = let h = f.sfits in grind (arith, nat_tests)
number_fits (negsuc n) f = let h = f.sfits in grind (arith, nat_tests)

pub fits_number : (z : ℤ) → IsTrue (is_number z) → SFits w64 z
fits_number (pos n) h = record { sfits = grind (arith, nat_tests) }
fits_number (negsuc n) h = record { sfits = grind (arith, nat_tests) }

-- ---- a shift is a quotient that is rounded down

pub shifted : (z : ℤ) (b : ℕ) → int_shr z b ≡ floor_div z (pos (2 ^ b))
shifted (pos n) b = refl
shifted (negsuc n) b = refl

pub shift_fits : (z : ℤ) (b : ℕ) → SFits w64 z → SFits w64 (int_shr z b)
shift_fits z b f = record { sfits = let h = f.sfits in omega (arith, mag_shr z (2 ^ b)) }

pub left_by_shift : (z : ℤ) (b : ℕ) → SFits w64 z → carried (pos (2 ^ b)) z ≡ Ok (int_shr z b)
left_by_shift z b f = rw (is_some b) (ap number_or_limit (sym (shifted z b)) ∙ held (int_shr z b) (shift_fits z b f))

pub not_shifted : (z : ℤ) → int_shr z 0 ≡ z
not_shifted (pos n) = ap pos (div-one n)
not_shifted (negsuc n) = ap negsuc (div-one n)

divided_twice : (n a b : ℕ) → n / 2 ^ a / 2 ^ b ≡ n / 2 ^ (a + b)
divided_twice n a b = div-div-eq-div-mul n (2 ^ a) (2 ^ b) ∙ ap (λ m. n / m) (sym (pow-add 2 a b))

pub shifted_twice : (z : ℤ) (a b : ℕ) → int_shr (int_shr z a) b ≡ int_shr z (a + b)
shifted_twice (pos n) a b = ap pos (divided_twice n a b)
shifted_twice (negsuc n) a b = ap negsuc (divided_twice n a b)

-- ---- the bits of a negative number, which count down from a power of two

from_top : (e n b : ℕ) → b ≤ e → n < 2 ^ e → 2 ^ e - suc n ≡ (2 ^ (e - b) - suc (n / 2 ^ b)) * 2 ^ b + (2 ^ b - suc (n % 2 ^ b))
from_top e n b few below =
    let m = 2 ^ b in
    let top = 2 ^ (e - b) in
    let q = n / m in
    let whole : top * m ≡ 2 ^ e = sym (pow-add 2 (e - b) b) ∙ ap (λ k. 2 ^ k) (let sum : e - b + b ≡ e = omega arith in sum) in
    let parts = div-add-mod' n m in
    let rest : n % m < m = mod-lt n (pow_pos b) in
    elim (cases_lt q top) [
      | inl inside ↦
          let others = top - suc q in
          let split : top * m ≡ (others + q + 1) * m = ap (λ k. k * m) (omega arith) in
          omega arith
      | inr outside ↦ let more = mul-le-mul_right m outside in absurd (omega arith)
    ]

from_top_low : (e n b : ℕ) → b ≤ e → n < 2 ^ e → (2 ^ e - suc n) % 2 ^ b ≡ 2 ^ b - suc (n % 2 ^ b)
from_top_low e n b few below =
    let some = pow_pos b in
    ap (λ k. k % 2 ^ b) (from_top e n b few below) ∙ low (2 ^ (e - b) - suc (n / 2 ^ b)) b (omega arith)

from_top_high : (e n b : ℕ) → b ≤ e → n < 2 ^ e → (2 ^ e - suc n) / 2 ^ b ≡ 2 ^ (e - b) - suc (n / 2 ^ b)
from_top_high e n b few below =
    let some = pow_pos b in
    ap (λ k. k / 2 ^ b) (from_top e n b few below) ∙ high (2 ^ (e - b) - suc (n / 2 ^ b)) b (omega arith)

quotient_below : (e n b : ℕ) → b ≤ e → n < 2 ^ e → n / 2 ^ b < 2 ^ (e - b)
quotient_below e n b few below =
    let m = 2 ^ b in
    let whole : 2 ^ (e - b) * m ≡ 2 ^ e = sym (pow-add 2 (e - b) b) ∙ ap (λ k. 2 ^ k) (let sum : e - b + b ≡ e = omega arith in sum) in
    let parts = div-add-mod' n m in
    elim (cases_lt (n / m) (2 ^ (e - b))) [
      | inl inside ↦ inside
      | inr outside ↦ let more = mul-le-mul_right m outside in absurd (omega arith)
    ]

-- ---- a run of bits is a residue

residue_positive : (n b : ℕ) → residue (pos (2 ^ b)) (pos n) ≡ pos (n % 2 ^ b)
residue_positive n b = rw (is_some b) (let e = div-add-mod' n (2 ^ b) in omega (arith, ints))

residue_negative : (n b : ℕ) → residue (pos (2 ^ b)) (negsuc n) ≡ pos (2 ^ b - suc (n % 2 ^ b))
residue_negative n b =
    let e = div-add-mod' n (2 ^ b) in
    let rest : n % 2 ^ b < 2 ^ b = mod-lt n (pow_pos b) in
    rw (is_some b, pos-*ℤ-negsuc (2 ^ b) (n / 2 ^ b)) (omega (arith, ints))

pub mask_is : (b : ℕ) → b < 63 → 1 * 2 ^ b % 2 ^ 64 - 1 ≡ 2 ^ b - 1
mask_is b few =
    let below : 2 ^ b ≤ 2 ^ 62 = pow_mono {j = 62} (omega arith) in
    ap (λ n. n - 1) (ap (λ n. n % 2 ^ 64) (omega arith) ∙ mod-eq_of_lt (omega arith))

pub run_of_bits : (z : ℤ) (s b : ℕ) → b < 63 → s + b ≤ 64 → SFits w64 z
    → to_z w64 (bit_and (of_z w64 z / 2 ^ s) (2 ^ b - 1)) ≡ residue (pos (2 ^ b)) (floor_div z (pos (2 ^ s)))
run_of_bits (pos n) s b few inside f =
    let below : 2 ^ b ≤ 2 ^ 62 = pow_mono {j = 62} (omega arith) in
    let rest : n / 2 ^ s % 2 ^ b < 2 ^ b = mod-lt (n / 2 ^ s) (pow_pos b) in
    ap (to_z w64) (and_mask (n / 2 ^ s) b) ∙ to_z_pos w64 (n / 2 ^ s % 2 ^ b) (omega arith) ∙ sym (residue_positive (n / 2 ^ s) b)
run_of_bits (negsuc n) s b few inside f =
    let below : 2 ^ b ≤ 2 ^ 62 = pow_mono {j = 62} (omega arith) in
    let some = pow_pos b in
    let word : n < 2 ^ 64 = let h = f.sfits in omega arith in
    let m = n / 2 ^ s in
    let above : (2 ^ 64 - suc n) / 2 ^ s ≡ 2 ^ (64 - s) - suc m = from_top_high 64 n s (omega arith) word in
    let bits : bit_and ((2 ^ 64 - suc n) / 2 ^ s) (2 ^ b - 1) ≡ 2 ^ b - suc (m % 2 ^ b) =
    and_mask ((2 ^ 64 - suc n) / 2 ^ s) b ∙ ap (λ k. k % 2 ^ b) above ∙ from_top_low (64 - s) m b (omega arith) (quotient_below 64 n s (omega arith) word) in
    ap (to_z w64) bits ∙ to_z_pos w64 (2 ^ b - suc (m % 2 ^ b)) (omega arith) ∙ sym (residue_negative m b)
