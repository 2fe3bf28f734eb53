-- The fold of ∨.∧ over truth values is a union.
use Rattle.std.proofs.Common.{◌≡◌, ℕ, zero, suc, max, ◌-◌, ◌<◌, ◌≤◌, ℤ, pos, negsuc, ◌⊎◌, inl, inr, refl, ap, sym, subst, ◌∙◌, arith, Result, Ok}
use Rattle.std.proofs.lemmas.Int.{ints}
use Rattle.{arrays_core.specs.declared.item.Kind.{Kind}, function_names.specs.declared.scalar.Scalar2.TheVariants.{And, Or}}
use Rattle.{item_fns.specs.Numbers.{dyadic_on_numbers}, operator_fns.{specs.Unions.{IsTruth}, specs.RowByColumn.{folded_all}, proofs.Meetings.{FoldedTo, firsts, folded_last, folded_whole, one_more}}}

by_truth : (P : ℤ → Type 0) → P (pos 0) → P (pos 1) → (z : ℤ) → IsTruth z → P z
by_truth P none one (pos zero) h = none
by_truth P none one (pos (suc zero)) h = one
by_truth P none one (pos (suc (suc n))) h = let k = h.high in absurd (omega (arith, ints))
by_truth P none one (negsuc n) h = let k = h.low in absurd (omega (arith, ints))

pub and_one : (b : ℤ) → IsTruth b → dyadic_on_numbers And (pos 1) b ≡ Ok b
and_one = by_truth (λ b. dyadic_on_numbers And (pos 1) b ≡ Ok b) refl refl

pub and_none : (b : ℤ) → IsTruth b → dyadic_on_numbers And (pos 0) b ≡ Ok (pos 0)
and_none = by_truth (λ b. dyadic_on_numbers And (pos 0) b ≡ Ok (pos 0)) refl refl

pub or_none : (b : ℤ) → IsTruth b → dyadic_on_numbers Or (pos 0) b ≡ Ok b
or_none = by_truth (λ b. dyadic_on_numbers Or (pos 0) b ≡ Ok b) refl refl

pub not_one : (a : ℤ) → IsTruth a → (a ≡ pos 1 → ⊥) → a ≡ pos 0
not_one = by_truth (λ a. (a ≡ pos 1 → ⊥) → a ≡ pos 0) (λ h. refl) (λ h. absurd (h refl))

-- the union of two truth values
pub record IsUnion (a b z : ℤ) : Type 0 where
  pub truth : IsTruth z
  pub is : dyadic_on_numbers Or a b ≡ Ok z

pub none : IsTruth (pos 0)
none = record { low = omega (arith, ints); high = omega (arith, ints) }

one : IsTruth (pos 1)
one = record { low = omega (arith, ints); high = omega (arith, ints) }

pub union_of_bits : (a b : ℕ) → a < 2 → b < 2 → IsUnion (pos b) (pos a) (pos (max a b))
union_of_bits zero zero p q = record { truth = none; is = refl }
union_of_bits zero (suc zero) p q = record { truth = one; is = refl }
union_of_bits (suc zero) zero p q = record { truth = one; is = refl }
union_of_bits (suc zero) (suc zero) p q = record { truth = one; is = refl }
union_of_bits (suc (suc a)) b p q = absurd (omega arith)
union_of_bits zero (suc (suc b)) p q = absurd (omega arith)
union_of_bits (suc zero) (suc (suc b)) p q = absurd (omega arith)

-- the union of the entries from a place on: 0 if there is none
pub record UnionTo (rule : ℕ → Result ℤ Kind) (n place : ℕ) (y : ℤ) : Type 0 where
  pub truth : IsTruth y
  pub so_far : ((place ≡ n) × (y ≡ pos 0)) ⊎ FoldedTo (dyadic_on_numbers Or) rule n place y

or_end : (x : ℤ) → IsTruth x → dyadic_on_numbers Or x (pos 0) ≡ Ok x
or_end = by_truth (λ x. dyadic_on_numbers Or x (pos 0) ≡ Ok x) refl refl

pub union_more : (rule : ℕ → Result ℤ Kind) (n place : ℕ) (y x z : ℤ) → 0 < place → place ≤ n → UnionTo rule n place y → IsTruth x → rule (place - 1) ≡ Ok x → IsUnion x y z
    → UnionTo rule n (place - 1) z
union_more rule n place y x z some inside so_far p here union =
    record {
      truth = union.truth;
      so_far = inr (elim so_far.so_far [
        | inl nothing ↦
            (let same : Ok x ≡ Ok z = sym (or_end x p) ∙ ap (dyadic_on_numbers Or x) (sym nothing.1) ∙ union.is in
            subst (λ m. FoldedTo (dyadic_on_numbers Or) rule n (m - 1) z) (sym nothing.0)
            (folded_last (dyadic_on_numbers Or) rule n z (omega arith) (ap (λ m. rule (m - 1)) (sym nothing.0) ∙ here ∙ same)))
        | inr later ↦ one_more (dyadic_on_numbers Or) rule n place y some inside later x z here union.is
      ]);
    }

pub union_whole : (rule : ℕ → Result ℤ Kind) (n : ℕ) (y : ℤ) → 1 ≤ n → UnionTo rule n 0 y → folded_all (dyadic_on_numbers Or) (firsts rule n) ≡ Ok y
union_whole rule n y some whole =
    elim whole.so_far [
      | inl nothing ↦ absurd (omega (arith, nothing.0))
      | inr later ↦ folded_whole (dyadic_on_numbers Or) rule n y later
    ]
