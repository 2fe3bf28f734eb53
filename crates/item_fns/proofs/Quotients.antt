-- Quotients by the machine's remainder, and quotients by -1.
use Rattle.std.{proofs.Common.{◌≡◌, ℕ, zero, ◌+◌, ◌-◌, ◌*◌, ◌/◌, ◌%◌, ◌^◌, ◌<◌, ◌≤◌, ◌≤ℤ◌, suc, SFits, unsigned_abs, refl, ap, sym, ◌∙◌, inl, arith, ℤ, pos, negsuc, neg_ℤ, ◌+ℤ◌, ◌-ℤ◌, ◌*ℤ◌, true, false, int_lt, Ok, to_z, of_z, w64, int_rem, int_div}, proofs.Math.IntN.{*ℤ_comm}, proofs.lemmas.Int.{ints, quot-rem, rem_below, fits_signed_from_abs, to_z-of_z, to_z_pos, wrapping_sub-bits, int_wrap_fits}, proofs.lemmas.Bool.{le-ltb, true≢false, false≢true}, proofs.lemmas.Nat.{div-mul-add, mod-mul-add, mul-le}, specs.Ordering.{int_eq}, specs.Int.{int_wrap}}
use borrow.Author.Differences.{up, down}
use Rattle.item_fns.{specs.Numbers.{residue, quotient, number_or_limit}, specs.AtOnce.{IsNear}, specs.Laws.AtOnce.{near_fits}, proofs.Residues.{as_it_is, whole_quotient, quotient_whole}, proofs.Signs.{zero_of_bits, is_not_zero}, proofs.Within.{held}}

nothing_left : (a p r : ℤ) → a -ℤ p ≡ pos 0 → p +ℤ r ≡ a → r ≡ pos 0
nothing_left a p r h e = omega (arith, ints)

-- if the residue is 0, the machine's remainder is 0
pub no_remainder : (a b : ℤ) → int_eq b (pos 0) ≡ false → residue b a ≡ pos 0 → int_rem a b ≡ pos 0
no_remainder a b some whole =
    nothing_left a (int_div a b *ℤ b) (int_rem a b) (rw (ap (λ z. b *ℤ z) (sym (whole_quotient a b some whole)) ∙ *ℤ_comm b (int_div a b)) at (rw some at whole)) (quot-rem a b)

reaches : (b : ℤ) → SFits w64 b → (of_z w64 b ≡ 0 → ⊥) → (0 < unsigned_abs b) × (unsigned_abs b ≤ 2 ^ 63)
reaches (pos n) fits some = let f = fits.sfits in (omega arith, omega arith)
reaches (negsuc n) fits some = let f = fits.sfits in (omega arith, omega arith)

pub no_bits : (a b : ℤ) → (of_z w64 b ≡ 0 → ⊥) → SFits w64 b → of_z w64 (int_rem a b) ≡ 0 → int_rem a b ≡ pos 0
no_bits a b some fits none =
    let reach = reaches b fits some in
    let below = rem_below a b reach.0 in
    zero_of_bits (int_rem a b) (fits_signed_from_abs w64 (int_rem a b) (let r = reach.1 in omega arith)) none

-- if the machine's remainder is 0, the residue is 0
pub no_residue : (a b : ℤ) → (of_z w64 b ≡ 0 → ⊥) → int_rem a b ≡ pos 0 → residue b a ≡ pos 0
no_residue a b some none = sym (as_it_is b a (int_rem a b) some refl (inl none)) ∙ none

by_minus_one : (a : ℤ) → int_div a (negsuc 0) ≡ neg_ℤ a
by_minus_one (pos n) = let e : n / 1 ≡ n = omega arith in ap (λ m. neg_ℤ (pos m)) e
by_minus_one (negsuc n) = let e : suc n / 1 ≡ suc n = omega arith in ap pos e

none_by_minus_one : (a : ℤ) → int_rem a (negsuc 0) ≡ pos 0
none_by_minus_one (pos n) = let e : n % 1 ≡ 0 = omega arith in ap pos e
none_by_minus_one (negsuc n) = let e : suc n % 1 ≡ 0 = omega arith in ap (λ m. neg_ℤ (pos m)) e

pub negated : (a : ℤ) → quotient a (negsuc 0) ≡ number_or_limit (neg_ℤ a)
negated a = quotient_whole a (negsuc 0) refl (no_residue a (negsuc 0) (λ e. omega arith) (none_by_minus_one a)) ∙ ap number_or_limit (by_minus_one a)

-- a multiple, divided by its divisor
multiple : (a : ℤ) (d q : ℕ) → 2 ≤ d → SFits w64 a → int_lt a (pos 0) ≡ false → q * d ≡ unsigned_abs a → quotient a (pos d) ≡ Ok (pos q)
multiple (negsuc n) d q two fits sign h = absurd (true≢false sign)
multiple (pos n) zero q two fits sign h = absurd (omega arith)
multiple (pos n) (suc k) q two fits sign h =
    let some : of_z w64 (pos (suc k)) ≡ 0 → ⊥ = λ e. omega arith in
    let split : n ≡ q * suc k + 0 = omega arith in
    let rest : n % suc k ≡ 0 = ap (λ m. m % suc k) split ∙ mod-mul-add q (suc k) 0 (omega arith) in
    let times : n / suc k ≡ q = ap (λ m. m / suc k) split ∙ div-mul-add q (suc k) 0 (omega arith) in
    let few : SFits w64 (pos q) = record { sfits = let f = fits.sfits in let m = mul-le q 1 q (suc k) (omega arith) (omega arith) in omega arith } in
    quotient_whole (pos n) (pos (suc k)) (is_not_zero (pos (suc k)) some) (no_residue (pos n) (pos (suc k)) some (ap pos rest)) ∙ ap (λ z. number_or_limit (pos z)) times ∙ held (pos q) few

negative_fits : (q : ℕ) → q ≤ 2 ^ 63 → SFits w64 (neg_ℤ (pos q))
negative_fits zero h = record { sfits = omega arith }
negative_fits (suc q) h = record { sfits = omega arith }

negative_multiple : (a : ℤ) (d q : ℕ) → 2 ≤ d → SFits w64 a → int_lt a (pos 0) ≡ true → q * d ≡ unsigned_abs a → quotient a (pos d) ≡ Ok (neg_ℤ (pos q))
negative_multiple (pos n) d q two fits sign h = absurd (false≢true (sym (le-ltb n 0 (omega arith)) ∙ sign))
negative_multiple (negsuc n) zero q two fits sign h = absurd (omega arith)
negative_multiple (negsuc n) (suc k) q two fits sign h =
    let some : of_z w64 (pos (suc k)) ≡ 0 → ⊥ = λ e. omega arith in
    let split : suc n ≡ q * suc k + 0 = omega arith in
    let rest : suc n % suc k ≡ 0 = ap (λ m. m % suc k) split ∙ mod-mul-add q (suc k) 0 (omega arith) in
    let times : suc n / suc k ≡ q = ap (λ m. m / suc k) split ∙ div-mul-add q (suc k) 0 (omega arith) in
    let few : q ≤ 2 ^ 63 = let f = fits.sfits in let m = mul-le q 1 q (suc k) (omega arith) (omega arith) in omega arith in
    quotient_whole (negsuc n) (pos (suc k)) (is_not_zero (pos (suc k)) some) (no_residue (negsuc n) (pos (suc k)) some (ap (λ m. neg_ℤ (pos m)) rest))
    ∙ ap (λ z. number_or_limit (neg_ℤ (pos z))) times ∙ held (neg_ℤ (pos q)) (negative_fits q few)

below_zero : (m : ℕ) → 0 < m → (int_lt (neg_ℤ (pos m)) (pos 0) ≡ true) × (unsigned_abs (neg_ℤ (pos m)) ≡ m)
below_zero zero some = absurd (omega arith)
below_zero (suc m) some = (refl, refl)

-- a product, divided by a factor
pub exact : (a d q : ℤ) → pos 2 ≤ℤ d → SFits w64 a → q *ℤ d ≡ a → quotient a d ≡ Ok q
exact a (negsuc m) q two fits h = absurd (omega (arith, ints, two))
exact a (pos d) (pos n) two fits h =
    multiple a d n (omega (arith, ints, two)) fits (ap (λ z. int_lt z (pos 0)) (sym h) ∙ le-ltb (n * d) 0 (omega arith)) (ap unsigned_abs h)
exact a (pos d) (negsuc n) two fits h =
    let below = below_zero (suc n * d) (let m = mul-le 1 2 (suc n) d (omega arith) (omega (arith, ints, two)) in omega arith) in
    negative_multiple a d (suc n) (omega (arith, ints, two)) fits (ap (λ z. int_lt z (pos 0)) (sym h) ∙ below.0) (sym below.1 ∙ ap unsigned_abs h)

-- a difference of numbers without a sign, modulo 2 to the power 64
difference_is : (m n : ℕ) → m < 2 ^ 63 → n < 2 ^ 63 → to_z w64 ((m + (2 ^ 64 - n)) % 2 ^ 64) ≡ pos m -ℤ pos n
difference_is m n few less =
    let near : IsNear 9223372036854775807 (pos m -ℤ pos n) = record { low = omega (arith, ints); high = omega (arith, ints) } in
    wrapping_sub-bits w64 m n (omega arith) (omega arith)
    ∙ (λ i. int_wrap w64 (to_z_pos w64 m (omega arith) i -ℤ to_z_pos w64 n (omega arith) i))
    ∙ int_wrap_fits w64 (pos m -ℤ pos n) (near_fits (pos m -ℤ pos n) near)

-- a difference whose product with the divisor is the dividend
pub exact_difference : (a : ℤ) (d x y : ℕ) → 2 ≤ d → d ≤ 2147483647 → x < 4294967296 → y < 4294967296 → SFits w64 a
    → (x * d % 2 ^ 64 + (2 ^ 64 - y * d % 2 ^ 64)) % 2 ^ 64 ≡ of_z w64 a → quotient a (pos d) ≡ Ok (to_z w64 ((x + (2 ^ 64 - y)) % 2 ^ 64))
exact_difference a d x y two most few less fits h =
    let q = pos x -ℤ pos y in
    let high : x * d ≤ 4294967296 * 2147483647 = mul-le x d 4294967296 2147483647 (omega arith) most in
    let low : y * d ≤ 4294967296 * 2147483647 = mul-le y d 4294967296 2147483647 (omega arith) most in
    let whole : x * d % 2 ^ 64 ≡ x * d = omega arith in
    let rest : y * d % 2 ^ 64 ≡ y * d = omega arith in
    let product : pos (x * d) -ℤ pos (y * d) ≡ a = sym (difference_is (x * d) (y * d) (omega arith) (omega arith)) ∙ ap (to_z w64) (rw (whole, rest) at h) ∙ to_z-of_z w64 a fits in
    let parts : up q + y ≡ down q + x = omega (arith, ints) in
    let times : (up q + y) * d ≡ (down q + x) * d = ap (λ n. n * d) parts in
    let spread : q *ℤ pos d ≡ pos (x * d) -ℤ pos (y * d) = omega (arith, ints, times) in
    exact a (pos d) q (omega (arith, ints)) fits (spread ∙ product) ∙ ap Ok (sym (difference_is x y (omega arith) (omega arith)))
