-- The functions of two numbers that are associative.
use Rattle.std.{proofs.Common.{◌≡◌, refl, ap, sym, ◌∙◌, arith, ℤ, pos, Bool, true, false, ◌&&◌, ◌||◌, if◌then◌else◌, Result, Ok, Err}, specs.Int.{int_max, int_min}, specs.Ordering.{int_eq}, proofs.lemmas.Int.{ints, clamps}}
use Rattle.arrays_core.{specs.declared.item.Kind.{Kind}, specs.declared.item.Kind.TheVariants.{Domain, Limit}, specs.Items.{and_then}}
use Rattle.function_names.specs.declared.scalar.Scalar2.TheVariants.{Maximum, Minimum, And, Or}
use Rattle.item_fns.{specs.Numbers.{dyadic_on_numbers, as_truth, truth, on_truths, logical}, specs.Folds.{IsAssociative}}

pub maximum : IsAssociative (dyadic_on_numbers Maximum)
maximum = record {
  kind = Limit;
  only = λ a b k h. let no : ⊥ = cc in absurd no;
  either = λ a b c. ap Ok (let e : int_max a (int_max b c) ≡ int_max (int_max a b) c = omega (arith, ints, clamps) in e);
}

pub minimum : IsAssociative (dyadic_on_numbers Minimum)
minimum = record {
  kind = Limit;
  only = λ a b k h. let no : ⊥ = cc in absurd no;
  either = λ a b c. ap Ok (let e : int_min a (int_min b c) ≡ int_min (int_min a b) c = omega (arith, ints, clamps) in e);
}

pub is_truth : (p : Bool) → as_truth (truth p) ≡ Ok p
is_truth true = refl
is_truth false = refl

pub domain_truth : (a : ℤ) (k : Kind) → as_truth a ≡ Err k → k ≡ Domain
domain_truth a k h = decide (int_eq a (pos 0)) (int_eq a (pos 1)) h
  where
    decide : (zero one : Bool) → (if zero then Ok false else (if one then Ok true else Err Domain)) ≡ Err k → k ≡ Domain
    decide true one h = let no : ⊥ = cc in absurd no
    decide false true h = let no : ⊥ = cc in absurd no
    decide false false h = let same : Domain ≡ k = cc in sym same

module _ (g : Bool → Bool → Bool) (assoc : (p q r : Bool) → g p (g q r) ≡ g (g p q) r) where
  only_domain : (p q : Result Bool Kind) (k : Kind) → ((e : Kind) → p ≡ Err e → e ≡ Domain) → ((e : Kind) → q ≡ Err e → e ≡ Domain) → on_truths g p q ≡ Err k → k ≡ Domain
  only_domain (Ok p) (Ok q) k h i e = let no : ⊥ = cc in absurd no
  only_domain (Ok p) (Err j) k h i e = let same : j ≡ k = cc in sym same ∙ i j refl
  only_domain (Err j) q k h i e = let same : j ≡ k = cc in sym same ∙ h j refl

  three : (p q r : Result Bool Kind) → ((e : Kind) → p ≡ Err e → e ≡ Domain) → ((e : Kind) → q ≡ Err e → e ≡ Domain) → ((e : Kind) → r ≡ Err e → e ≡ Domain)
      → and_then (on_truths g q r) (λ z. on_truths g p (as_truth z)) ≡ and_then (on_truths g p q) (λ z. on_truths g (as_truth z) r)
  three (Ok p) (Ok q) (Ok r) h i j = rw (is_truth (g q r), is_truth (g p q), assoc p q r) refl
  three (Ok p) (Ok q) (Err k) h i j = rw (is_truth (g p q)) refl
  three (Ok p) (Err k) r h i j = refl
  three (Err k) (Ok q) (Ok r) h i j = refl
  three (Err k) (Ok q) (Err m) h i j = ap Err (j m refl ∙ sym (h k refl))
  three (Err k) (Err m) r h i j = ap Err (i m refl ∙ sym (h k refl))

  pub on_bits : IsAssociative (logical g)
  on_bits = record {
    kind = Domain;
    only = λ a b k h. only_domain (as_truth a) (as_truth b) k (domain_truth a) (domain_truth b) h;
    either = λ a b c. three (as_truth a) (as_truth b) (as_truth c) (domain_truth a) (domain_truth b) (domain_truth c);
  }

and_assoc : (p q r : Bool) → (p && (q && r)) ≡ ((p && q) && r)
and_assoc true q r = refl
and_assoc false q r = refl

or_assoc : (p q r : Bool) → (p || (q || r)) ≡ ((p || q) || r)
or_assoc true q r = refl
or_assoc false q r = refl

pub both_true : IsAssociative (dyadic_on_numbers And)
both_true = on_bits (λ p q. p && q) and_assoc

pub any_true : IsAssociative (dyadic_on_numbers Or)
any_true = on_bits (λ p q. p || q) or_assoc
