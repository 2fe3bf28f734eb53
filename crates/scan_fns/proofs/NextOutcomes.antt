-- The outcome for the next number after one more number, and the functions with results 0 and 1.
use Rattle.std.{proofs.Common.{◌≡◌, refl, sym, subst, arith, Bool, true, false, not, ◌&&◌, ◌||◌, ℤ, pos, SFits, w64, Some, None, Result, Ok, Err, ◌⊎◌, inl, inr}, specs.Ordering.{int_eq}, specs.Prelude.{int_lt, int_le}, proofs.lemmas.Bool.Decides.{Decides-int_eq}}
use Rattle.arrays_core.{specs.declared.item.Kind.{Kind}, specs.Items.{and_then}}
use Rattle.function_names.specs.declared.scalar.Scalar2.TheVariants.{Less, LessOrEqual, Equal, GreaterOrEqual, Greater, NotEqual, Nand, Nor}
use Rattle.{item_fns.specs.Numbers.{dyadic_on_numbers, truth, as_truth, on_truths}, scan_fns.specs.Prefixes.{GivesTruths, chosen, outcome, Continues, IsClosed}}

zero_or_one : (z : ℤ) → (int_eq z (pos 0) || int_eq z (pos 1)) ≡ true → (z ≡ pos 0) ⊎ (z ≡ pos 1)
zero_or_one z e = decide (int_eq z (pos 0)) refl e
  where
    decide : (b : Bool) → int_eq z (pos 0) ≡ b → (b || int_eq z (pos 1)) ≡ true → (z ≡ pos 0) ⊎ (z ≡ pos 1)
    decide true f e = inl ((Decides-int_eq z (pos 0)).0 f)
    decide false f e = inr ((Decides-int_eq z (pos 1)).0 e)

module _ (f : ℤ → ℤ → Result ℤ Kind) (truths : GivesTruths f) where
  -- the results for 0 and for 1 decide the result for each truth value
  by_truth : (x v : ℤ) (after : ℤ → Result ℤ Kind) → and_then (f x v) (chosen (after (pos 0)) (after (pos 1))) ≡ and_then (f x v) after
  by_truth x v after = decide (f x v) refl
    where
      decide : (r : Result ℤ Kind) → f x v ≡ r → and_then r (chosen (after (pos 0)) (after (pos 1))) ≡ and_then r after
      decide (Err k) e = refl
      decide (Ok z) e =
          elim (zero_or_one z (truths.is x v z e)) [
            | inl h ↦ subst (λ y. chosen (after (pos 0)) (after (pos 1)) y ≡ after y) (sym h) refl
            | inr h ↦ subst (λ y. chosen (after (pos 0)) (after (pos 1)) y ≡ after y) (sym h) refl
          ]

  pub first_outcome : (x : ℤ) (at_zero at_one : Result ℤ Kind) → Continues (f x) (outcome f None at_zero at_one) (outcome f (Some x) (Ok (pos 0)) (Ok (pos 1)))
  first_outcome x at_zero at_one = record { is = λ v _. by_truth x v (λ z. Ok z) }

  pub next_outcome : (last x : ℤ) (at_zero at_one new_zero new_one : Result ℤ Kind) → new_zero ≡ outcome f (Some last) at_zero at_one (pos 0) → new_one ≡ outcome f (Some last) at_zero at_one (pos 1)
      → Continues (f x) (outcome f (Some last) at_zero at_one) (outcome f (Some x) new_zero new_one)
  next_outcome last x at_zero at_one new_zero new_one zero_is one_is = record { is = λ v _. rw (zero_is, one_is) (by_truth x v (outcome f (Some last) at_zero at_one)) }

  pub truths_closed : IsClosed f
  truths_closed = record {
    is = λ a b z _ _ e. elim (zero_or_one z (truths.is a b z e)) [
      | inl h ↦ subst (SFits w64) (sym h) (record { sfits = omega arith })
      | inr h ↦ subst (SFits w64) (sym h) (record { sfits = omega arith })
    ];
  }

-- ---- functions with results 0 and 1

abbrev given : Bool → Result ℤ Kind
given p = Ok (truth p)

some_truth : (p : Bool) (z : ℤ) → given p ≡ Ok z → (int_eq z (pos 0) || int_eq z (pos 1)) ≡ true
some_truth p z e = let same : truth p ≡ z = cc in subst (λ y. (int_eq y (pos 0) || int_eq y (pos 1)) ≡ true) same (decide p)
  where
    decide : (p : Bool) → (int_eq (truth p) (pos 0) || int_eq (truth p) (pos 1)) ≡ true
    decide true = refl
    decide false = refl

logical_truth : (g : Bool → Bool → Bool) (r s : Result Bool Kind) (z : ℤ) → on_truths g r s ≡ Ok z → (int_eq z (pos 0) || int_eq z (pos 1)) ≡ true
logical_truth g (Ok p) (Ok q) z e = some_truth (g p q) z e
logical_truth g (Ok p) (Err k) z e = let no : ⊥ = cc in absurd no
logical_truth g (Err k) s z e = let no : ⊥ = cc in absurd no

pub less : GivesTruths (dyadic_on_numbers Less)
less = record { is = λ a b z e. some_truth (int_lt a b) z e }

pub less_or_equal : GivesTruths (dyadic_on_numbers LessOrEqual)
less_or_equal = record { is = λ a b z e. some_truth (int_le a b) z e }

pub equal : GivesTruths (dyadic_on_numbers Equal)
equal = record { is = λ a b z e. some_truth (int_eq a b) z e }

pub greater_or_equal : GivesTruths (dyadic_on_numbers GreaterOrEqual)
greater_or_equal = record { is = λ a b z e. some_truth (int_le b a) z e }

pub greater : GivesTruths (dyadic_on_numbers Greater)
greater = record { is = λ a b z e. some_truth (int_lt b a) z e }

pub not_equal : GivesTruths (dyadic_on_numbers NotEqual)
not_equal = record { is = λ a b z e. some_truth (not (int_eq a b)) z e }

pub not_both : GivesTruths (dyadic_on_numbers Nand)
not_both = record { is = λ a b z e. logical_truth (λ p q. not (p && q)) (as_truth a) (as_truth b) z e }

pub neither : GivesTruths (dyadic_on_numbers Nor)
neither = record { is = λ a b z e. logical_truth (λ p q. not (p || q)) (as_truth a) (as_truth b) z e }
