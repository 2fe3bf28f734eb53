-- Quotients that are rounded down, compared with those rounded toward zero.
use Rattle.std.{proofs.Common.{◌≡◌, ℕ, zero, suc, ◌+◌, ◌/◌, ◌%◌, ◌^◌, refl, ap, ◌∙◌, inl, inr, arith, ℤ, pos, negsuc, neg_ℤ, ◌-ℤ◌, Bool, true, false, cond, Result, Ok, Err, int_lt, int_div}, specs.Prelude.{nat_lt}, specs.Ordering.{int_eq}, proofs.lemmas.Bool.Decides.{Decides-int_eq, nat_tests}}
use Rattle.std.{proofs.lemmas.Bool.{cases_lt, le-ltb, true≢false, false_from_ne_true}, proofs.lemmas.Int.{ints}, proofs.lemmas.Nat.{div-mul-add}}
use Rattle.arrays_core.{specs.declared.item.Kind.{Kind}, specs.declared.item.Kind.TheVariants.{Limit}}
use Rattle.item_fns.{specs.Numbers.{residue, floor_div, number_or_limit}, proofs.Residues.{next_mod, negative_divisor_whole, negative_dividend_whole}, proofs.Within.{held_ok as number_held}}
use mathlib.Core.Bool.{beq}

pub not_zero : (b : ℤ) → (b ≡ pos 0 → ⊥) → int_eq b (pos 0) ≡ false
not_zero b h = false_from_ne_true _ (λ t. h ((Decides-int_eq b (pos 0)).0 t))

-- the quotient toward zero is one more than the quotient rounded down
pub record IsOneAbove (a b : ℤ) : Type 0 where
  pub magnitude : ℕ
  pub quotient : int_div a b ≡ neg_ℤ (pos magnitude)
  pub floor : floor_div a b ≡ neg_ℤ (pos magnitude) -ℤ pos 1

one_less : (q : ℕ) → neg_ℤ (pos (q + 1)) ≡ neg_ℤ (pos q) -ℤ pos 1
one_less q = omega (arith, ints)

negative_one_less : (q : ℕ) → negsuc q ≡ neg_ℤ (pos q) -ℤ pos 1
negative_one_less q = omega (arith, ints)

-- this holds if the signs differ and the residue is not 0
pub one_above : (a b : ℤ) → (b ≡ pos 0 → ⊥) → beq (int_lt a (pos 0)) (int_lt b (pos 0)) ≡ false → (residue b a ≡ pos 0 → ⊥) → IsOneAbove a b
one_above (pos a) (pos b) some differ left =
    let same = rw (le-ltb a 0 (omega arith), le-ltb b 0 (omega arith)) at differ in absurd (true≢false same)
one_above (negsuc a) (negsuc b) some differ left = absurd (true≢false differ)
one_above (pos a) (negsuc b) some differ left =
    elim (cases_lt 0 (a % suc b)) [
      | inl more ↦
          record { magnitude = a / suc b; quotient = refl; floor = ap (λ q. neg_ℤ (pos q)) (omega arith) ∙ one_less (a / suc b) }
      | inr none ↦ absurd (left (negative_divisor_whole a b (omega arith)))
    ]
one_above (negsuc a) (pos zero) some differ left = absurd (some refl)
one_above (negsuc a) (pos (suc b)) some differ left =
    elim (next_mod a (suc b) (omega arith)) [
      | inl whole ↦ absurd (left (rw (not_zero (pos (suc b)) some) (negative_dividend_whole a b whole.1)))
      | inr more ↦
          let same : suc a / suc b ≡ a / suc b = ap (λ n. n / suc b) (omega arith) ∙ div-mul-add (a / suc b) (suc b) (a % suc b + 1) (omega arith) in
          record { magnitude = a / suc b; quotient = ap (λ q. neg_ℤ (pos q)) same; floor = negative_one_less (a / suc b) }
    ]

-- if a number from 0 down overflows, so does the next lower one
pub held_below : (q : ℕ) (k : Kind) → number_or_limit (neg_ℤ (pos q)) ≡ Err k → number_or_limit (neg_ℤ (pos q) -ℤ pos 1) ≡ Err k
held_below zero k h = cc
held_below (suc m) k h =
    let next : negsuc m -ℤ pos 1 ≡ negsuc (suc m) = omega (arith, ints) in
    ap number_or_limit next ∙ decide (nat_lt m (2 ^ 63)) refl h
  where
    farther : (m : ℕ) → nat_lt m (2 ^ 63) ≡ false → nat_lt (suc m) (2 ^ 63) ≡ false
    farther m e = grind (arith, nat_tests)

    decide : (w : Bool) → nat_lt m (2 ^ 63) ≡ w → cond {A = Result ℤ Kind} w (Ok (negsuc m)) (Err Limit) ≡ Err k → number_or_limit (negsuc (suc m)) ≡ Err k
    decide true e h = cc
    decide false e h = let far = farther m e in rw far h

pub held_ok : (z q : ℤ) → number_or_limit z ≡ Ok q → q ≡ z
held_ok z q h = (number_held z q h).same
