-- Residues by the signs of the two numbers.
use Rattle.std.{proofs.Common.{◌≡◌, ℕ, zero, suc, ◌+◌, ◌*◌, ◌/◌, ◌%◌, ◌<◌, min, refl, ap, sym, ◌∙◌, ◌⊎◌, inl, inr, arith, ℤ, pos, negsuc, neg_ℤ, ◌+ℤ◌, ◌-ℤ◌, ◌*ℤ◌, Err, true, false, not, of_z, w64, int_lt, int_rem, int_div}, specs.Ordering.{int_eq}, specs.Int.{div_ceil}, proofs.lemmas.Bool.Decides.{Decides-int_eq}}
use Rattle.std.{proofs.lemmas.Int.{ints}, proofs.lemmas.Bool.{cases_lt, le-ltb, false≢true, true≢false, false_from_ne_true}, proofs.lemmas.Nat.{mod_below, mod-mul-add, div-mul-add, div-add-mod'}}
use Rattle.item_fns.{specs.Numbers.{residue, floor_div, quotient, number_or_limit}, proofs.Signs.{is_not_zero}}
use Rattle.arrays_core.specs.declared.item.Kind.TheVariants.{Domain}
use mathlib.Core.Bool.{beq}
use lib.IntN.{nat_abs, pos-*ℤ-negsuc, negsuc-*ℤ-pos}

-- the remainder of the next number
pub next_mod : (b d : ℕ) → 0 < d → ((suc b % d ≡ 0) × (b % d + 1 ≡ d)) ⊎ (suc b % d ≡ b % d + 1)
next_mod b d h =
    elim (cases_lt (b % d + 1) d) [
      | inl lt ↦
          inr (ap (λ n. n % d) (omega arith) ∙ mod-mul-add (b / d) d (b % d + 1) lt)
      | inr ge ↦
          inl (ap (λ n. n % d) (omega arith) ∙ mod-mul-add (b / d + 1) d 0 h, omega arith)
    ]

pub both_positive : (b a : ℕ) → pos b -ℤ pos (suc a) *ℤ pos (b / suc a) ≡ pos (b % suc a)
both_positive b a = let e = div-add-mod' b (suc a) in omega (arith, ints)

pub both_negative : (b a : ℕ) → negsuc b -ℤ negsuc a *ℤ pos (suc b / suc a) ≡ neg_ℤ (pos (suc b % suc a))
both_negative b a = rw (negsuc-*ℤ-pos a (suc b / suc a)) (omega (arith, ints))

pub negative_dividend : (b a : ℕ) → suc b % suc a ≡ b % suc a + 1
    → negsuc b -ℤ pos (suc a) *ℤ negsuc (b / suc a) ≡ neg_ℤ (pos (suc b % suc a)) +ℤ pos (suc a)
negative_dividend b a h = rw (pos-*ℤ-negsuc (suc a) (b / suc a), h) (omega (arith, ints))

pub negative_dividend_whole : (b a : ℕ) → b % suc a + 1 ≡ suc a → negsuc b -ℤ pos (suc a) *ℤ negsuc (b / suc a) ≡ pos 0
negative_dividend_whole b a h = rw (pos-*ℤ-negsuc (suc a) (b / suc a)) (omega (arith, ints))

negative_product : (a q : ℕ) → negsuc a *ℤ neg_ℤ (pos q) ≡ pos (suc a * q)
negative_product a zero = let z : suc a * 0 ≡ 0 = omega arith in rw z refl
negative_product a (suc q) = refl

pub negative_divisor : (b a : ℕ) → 0 < b % suc a
    → pos b -ℤ negsuc a *ℤ neg_ℤ (pos (div_ceil b (suc a))) ≡ pos (b % suc a) +ℤ negsuc a
negative_divisor b a h =
    let up : b / suc a + min 1 (b % suc a) ≡ b / suc a + 1 = omega arith in
    rw (negative_product a (b / suc a + min 1 (b % suc a)), up) (omega (arith, ints))

pub negative_divisor_whole : (b a : ℕ) → b % suc a ≡ 0
    → pos b -ℤ negsuc a *ℤ neg_ℤ (pos (div_ceil b (suc a))) ≡ pos 0
negative_divisor_whole b a h =
    let up : b / suc a + min 1 (b % suc a) ≡ b / suc a = omega arith in
    rw (negative_product a (b / suc a + min 1 (b % suc a)), up) (omega (arith, ints))

nonzero_rest : (r : ℕ) → (of_z w64 (neg_ℤ (pos r)) ≡ 0 → ⊥) → (k : ℕ) × (r ≡ suc k)
nonzero_rest zero h = absurd (h refl)
nonzero_rest (suc k) h = (k, refl)

nonzero_place : (r : ℕ) → (r ≡ 0 → ⊥) → 0 < r
nonzero_place r h = omega arith

-- if the signs of remainder and divisor differ, the divisor is added
pub corrected : (a b rest : ℤ) → (of_z w64 a ≡ 0 → ⊥) → rest ≡ int_rem b a → (of_z w64 rest ≡ 0 → ⊥)
    → not (beq (int_lt rest (pos 0)) (int_lt a (pos 0))) ≡ true → rest +ℤ a ≡ residue a b
corrected (pos zero) b rest some is far differ = absurd (some refl)
corrected (pos (suc a)) (pos b) rest some is far differ =
    let same = rw (is, le-ltb (b % suc a) 0 (omega arith), le-ltb (suc a) 0 (omega arith)) at differ in absurd (false≢true same)
corrected (pos (suc a)) (negsuc b) rest some is far differ =
    elim (next_mod b (suc a) (omega arith)) [
      | inl whole ↦ absurd (far (ap (of_z w64) (is ∙ ap (λ r. neg_ℤ (pos r)) (whole.0))))
      | inr more ↦ rw (is, is_not_zero (pos (suc a)) some) (sym (negative_dividend b a more))
    ]
corrected (negsuc a) (pos b) rest some is far differ =
    ap (λ z. z +ℤ negsuc a) is ∙ sym (negative_divisor b a (nonzero_place (b % suc a) (λ e. far (ap (of_z w64) (is ∙ ap pos e)))))
corrected (negsuc a) (negsuc b) rest some is far differ =
    let same = rw (is ∙ ap (λ r. neg_ℤ (pos r)) (nonzero_rest (suc b % suc a) (λ e. far (ap (of_z w64) is ∙ e))).1) at differ in absurd (false≢true same)

pub as_it_is : (a b rest : ℤ) → (of_z w64 a ≡ 0 → ⊥) → rest ≡ int_rem b a
    → (rest ≡ pos 0) ⊎ (not (beq (int_lt rest (pos 0)) (int_lt a (pos 0))) ≡ false) → rest ≡ residue a b
as_it_is (pos zero) b rest some is how = absurd (some refl)
as_it_is (pos (suc a)) (pos b) rest some is how =
    let nonzero = is_not_zero (pos (suc a)) some in rw (is, nonzero) (sym (both_positive b a))
as_it_is (negsuc a) (negsuc b) rest some is how = is ∙ sym (both_negative b a)
as_it_is (pos (suc a)) (negsuc b) rest some is how =
    elim (next_mod b (suc a) (omega arith)) [
      | inl whole ↦ is ∙ ap (λ r. neg_ℤ (pos r)) whole.0 ∙ (rw (is_not_zero (pos (suc a)) some) (sym (negative_dividend_whole b a whole.1)))
      | inr more ↦
          let one : b % suc a + 1 ≡ suc (b % suc a) = omega arith in
          let negative : rest ≡ negsuc (b % suc a) = is ∙ ap (λ r. neg_ℤ (pos r)) (more ∙ one) in
          elim how [
            | inl none ↦ let bad : negsuc (b % suc a) ≡ pos 0 = sym negative ∙ none in absurd (cc)
            | inr same ↦ let bad = rw (negative, le-ltb (suc a) 0 (omega arith)) at same in absurd (true≢false bad)
          ]
    ]
as_it_is (negsuc a) (pos b) rest some is how =
    elim how [
      | inl none ↦
          let z : b % suc a ≡ 0 = ap nat_abs (sym is ∙ none) in
          is ∙ ap pos z ∙ sym (negative_divisor_whole b a z)
      | inr same ↦
          let bad = rw (is, le-ltb (b % suc a) 0 (omega arith)) at same in absurd (true≢false bad)
    ]

-- if the residue is 0, division toward zero equals division rounded down
pub whole_quotient : (a b : ℤ) → int_eq b (pos 0) ≡ false → residue b a ≡ pos 0 → int_div a b ≡ floor_div a b
whole_quotient (pos a) (pos b) some whole = refl
whole_quotient (negsuc a) (negsuc b) some whole = refl
whole_quotient (pos a) (negsuc b) some whole =
    let below : a % suc b < suc b = mod_below a (suc b) (omega arith) in
    elim (cases_lt 0 (a % suc b)) [
      | inl more ↦
          let left : pos (a % suc b) +ℤ negsuc b ≡ pos 0 = sym (negative_divisor a b more) ∙ whole in
          absurd (omega (arith, ints))
      | inr none ↦
          ap (λ q. neg_ℤ (pos q)) (sym (omega arith))
    ]
whole_quotient (negsuc a) (pos zero) some whole = absurd (true≢false some)
whole_quotient (negsuc a) (pos (suc b)) some whole =
    let below : suc a % suc b < suc b = mod_below (suc a) (suc b) (omega arith) in
    elim (next_mod a (suc b) (omega arith)) [
      | inl last ↦
          let e = div-add-mod' a (suc b) in
          let s : suc a ≡ (a / suc b + 1) * suc b + 0 = let l = last.1 in omega arith in
          let one : a / suc b + 1 ≡ suc (a / suc b) = omega arith in
          ap (λ q. neg_ℤ (pos q)) (ap (λ n. n / suc b) s ∙ div-mul-add (a / suc b + 1) (suc b) 0 (omega arith) ∙ one)
      | inr more ↦
          let left : neg_ℤ (pos (suc a % suc b)) +ℤ pos (suc b) ≡ pos 0 = sym (negative_dividend a b more) ∙ (rw some at whole) in
          absurd (omega (arith, ints))
    ]

pub quotient_whole : (a b : ℤ) → int_eq b (pos 0) ≡ false → residue b a ≡ pos 0 → quotient a b ≡ number_or_limit (int_div a b)
quotient_whole a b some none = (rw ((Decides-int_eq (residue b a) (pos 0)).1 none, some) refl) ∙ ap number_or_limit (sym (whole_quotient a b some none))

pub quotient_broken : (a b : ℤ) → int_eq b (pos 0) ≡ false → (residue b a ≡ pos 0 → ⊥) → quotient a b ≡ Err Domain
quotient_broken a b some left = rw (false_from_ne_true _ (λ t. left ((Decides-int_eq (residue b a) (pos 0)).0 t)), some) refl
