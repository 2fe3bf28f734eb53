-- A residue of b is b minus a multiple of a.
use Rattle.std.{proofs.Common.{◌≡◌, ℕ, zero, suc, ◌%◌, ◌<◌, sym, subst, inl, inr, arith, false, ℤ, pos, negsuc, neg_ℤ, ◌+ℤ◌, ◌-ℤ◌, ◌*ℤ◌}, specs.Ordering.{int_eq}, proofs.lemmas.Int.{ints}, proofs.lemmas.Bool.{cases_lt, true≢false, false_from_ne_true}, proofs.lemmas.Bool.Decides.{Decides-int_eq}}
use Rattle.std.proofs.lemmas.Nat.{mod_below}
use Rattle.item_fns.{specs.Numbers.{residue, floor_div}, specs.Residue.{IsFromZeroBelow, IsRest}, proofs.Residues.{next_mod, both_positive, both_negative, negative_dividend, negative_dividend_whole, negative_divisor, negative_divisor_whole}}

parts_of : (b p : ℤ) → b ≡ p +ℤ (b -ℤ p)
parts_of b p = omega (arith, ints)

not_above : (m a : ℕ) → m < suc a → IsFromZeroBelow (negsuc a) (neg_ℤ (pos m))
not_above m a h = (omega (arith, ints), omega (arith, ints))

between : (a b : ℤ) → int_eq a (pos 0) ≡ false → IsFromZeroBelow a (b -ℤ a *ℤ floor_div b a)
between (pos zero) b some = absurd (true≢false some)
between (pos (suc a)) (pos b) some = rw (both_positive b a) (omega (arith, ints), omega (arith, ints))
between (negsuc a) (negsuc b) some = rw (both_negative b a) (not_above (suc b % suc a) a (mod_below (suc b) (suc a) (omega arith)))
between (pos (suc a)) (negsuc b) some =
    elim (next_mod b (suc a) (omega arith)) [
      | inl last ↦ rw (negative_dividend_whole b a last.1) (omega (arith, ints), omega (arith, ints))
      | inr more ↦ rw (negative_dividend b a more) (omega (arith, ints), omega (arith, ints))
    ]
between (negsuc a) (pos b) some =
    elim (cases_lt 0 (b % suc a)) [
      | inl more ↦ rw (negative_divisor b a more) (omega (arith, ints), omega (arith, ints))
      | inr none ↦ rw (negative_divisor_whole b a (omega arith)) (omega (arith, ints), omega (arith, ints))
    ]

pub residue_is_rest : (a b : ℤ) → int_eq a (pos 0) ≡ false → IsRest a b (residue a b)
residue_is_rest a b some = rw some (record { times = floor_div b a; parts = parts_of b (a *ℤ floor_div b a); between = between a b some })

pub rest_by : (a b r : ℤ) → r ≡ residue a b → (a ≡ pos 0 → ⊥) → IsRest a b r
rest_by a b r is some = subst (λ z. IsRest a b z) (sym is) (residue_is_rest a b (false_from_ne_true _ (λ t. some ((Decides-int_eq a (pos 0)).0 t))))
