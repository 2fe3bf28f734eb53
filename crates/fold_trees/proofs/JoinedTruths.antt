-- The fold of a list of truth values and a later one.
use Rattle.std.{proofs.Common.{◌≡◌, ◌<◌, List, [], ◌∷◌, ◌++◌, length, refl, ap, sym, ◌∙◌, arith, inl, inr, ℤ, pos, Bool, Result, Ok, Err, ◌⊎◌}, specs.Prelude.{IfOk, IfErr}, proofs.lemmas.List.{length-append}}
use Rattle.arrays_core.{specs.declared.item.Kind.{Kind}, specs.declared.item.Kind.TheVariants.{Domain}, specs.Items.{and_then}}
use Rattle.item_fns.{specs.Numbers.{as_truth, truth, on_truths, logical}, specs.Folds.{folded, IsAssociative}, proofs.Associative.{is_truth, domain_truth}}
use Rattle.fold_trees.{specs.Parts.{truth_value}, proofs.JoinedFolds.{both, joined}}

-- the fold of a list is this number, or its truth value
abbrev pub IsSo : Result ℤ Kind → ℤ → Type 0
IsSo r a = (r ≡ Ok a) ⊎ (r ≡ truth_value a)

of_truth : (p : Result Bool Kind) → and_then (and_then p (λ q. Ok (truth q))) as_truth ≡ p
of_truth (Ok p) = is_truth p
of_truth (Err k) = refl

as_it_stands : (r : Result ℤ Kind) (a : ℤ) → IsSo r a → and_then r as_truth ≡ as_truth a
as_it_stands r a h = elim h [
  | inl e ↦ ap (λ s. and_then s as_truth) e
  | inr e ↦ ap (λ s. and_then s as_truth) e ∙ of_truth (as_truth a)
]

through_truth : (p : Result Bool Kind) (k : Kind) → ((j : Kind) → p ≡ Err j → j ≡ Domain) → and_then {B = ℤ} p (λ q. Ok (truth q)) ≡ Err k → k ≡ Domain
through_truth (Ok p) k h e = let no : ⊥ = cc in absurd no
through_truth (Err j) k h e = let same : j ≡ k = cc in sym same ∙ h j refl

only_domain : (r : Result ℤ Kind) (a : ℤ) → IsSo r a → (k : Kind) → r ≡ Err k → k ≡ Domain
only_domain r a h k e = elim h [
  | inl is ↦ let no : ⊥ = cc in absurd no
  | inr is ↦ through_truth (as_truth a) k (domain_truth a) (sym is ∙ e)
]

module _ (g : Bool → Bool → Bool) (law : IsAssociative (logical g)) where
  late : (p : Result Bool Kind) (k : Kind) → ((j : Kind) → p ≡ Err j → j ≡ Domain) → k ≡ Domain → Err k ≡ on_truths g p (Err k)
  late (Ok p) k h e = refl
  late (Err j) k h e = ap Err (e ∙ sym (h j refl))

  on_both : (r s : Result ℤ Kind) → ((k : Kind) → r ≡ Err k → k ≡ Domain) → ((k : Kind) → s ≡ Err k → k ≡ Domain)
      → both (logical g) law r s ≡ on_truths g (and_then r as_truth) (and_then s as_truth)
  on_both (Ok a) (Ok b) h i = refl
  on_both (Err k) (Ok b) h i = refl
  on_both (Ok a) (Err k) h i = late (as_truth a) k (domain_truth a) (i k refl)
  on_both (Err j) (Err k) h i = ap Err (i k refl ∙ sym (h j refl))

  on_joined : (xs ys : List ℤ) (a b : ℤ) → 0 < length xs → 0 < length ys → IsSo (folded (logical g) xs) a → IsSo (folded (logical g) ys) b
      → folded (logical g) (xs ++ ys) ≡ logical g a b
  on_joined xs ys a b some more h k =
      joined (logical g) law xs ys some more
      ∙ on_both (folded (logical g) xs) (folded (logical g) ys) (only_domain _ a h) (only_domain _ b k)
      ∙ (λ i. on_truths g (as_it_stands _ a h i) (as_it_stands _ b k i))

  no_truth : (r : ℤ) (k : Kind) → r ≡ pos 2 → k ≡ Domain → truth_value r ≡ Err k
  no_truth r k h e = ap truth_value h ∙ ap Err (sym e)

  a_truth : (r : ℤ) (p : Bool) → r ≡ truth p → truth_value r ≡ Ok (truth p)
  a_truth r p h = ap truth_value h ∙ ap (λ q. and_then q (λ t. Ok (truth t))) (is_truth p)

  kept : (p q : Result Bool Kind) (r : ℤ) → ((k : Kind) → p ≡ Err k → k ≡ Domain) → ((k : Kind) → q ≡ Err k → k ≡ Domain)
      → IfOk (on_truths g p q) (λ z. r ≡ z) → IfErr (on_truths g p q) (λ k. r ≡ pos 2) → truth_value r ≡ on_truths g p q
  kept (Ok p) (Ok q) r h i good bad = a_truth r (g p q) good
  kept (Ok p) (Err k) r h i good bad = no_truth r k bad (i k refl)
  kept (Err k) q r h i good bad = no_truth r k bad (h k refl)

  -- z is the single number of a list, or the fold of several, as in `IsTruthFold`
  abbrev pub IsTruthKept : ℤ → List ℤ → Type 0
  IsTruthKept z xs = (xs ≡ z ∷ []) ⊎ ((1 < length xs) × (folded (logical g) xs ≡ truth_value z))

  some : (z : ℤ) (xs : List ℤ) → IsTruthKept z xs → 0 < length xs
  some z xs h = elim h [
    | inl one ↦ omega (arith, ap length one)
    | inr more ↦ omega (arith, more.0)
  ]

  is_so : (z : ℤ) (xs : List ℤ) → IsTruthKept z xs → IsSo (folded (logical g) xs) z
  is_so z xs h = elim h [
    | inl one ↦ inl (ap (folded (logical g)) one)
    | inr more ↦ inr more.1
  ]

  -- the result for two parts, with an error replaced, is the part of both
  pub joined_truths : (xs ys : List ℤ) (a b r : ℤ) {left right result : ℤ} → left ≡ a → right ≡ b → r ≡ result
      → IfOk (logical g left right) (λ z. result ≡ z) → IfErr (logical g left right) (λ k. result ≡ pos 2)
      → IsTruthKept a xs → IsTruthKept b ys → IsTruthKept r (xs ++ ys)
  joined_truths xs ys a b r {left} {right} {result} here later is good bad h k =
      let first = some a xs h in
      let last = some b ys k in
      let value : truth_value r ≡ logical g a b =
      ap truth_value is ∙ kept (as_truth left) (as_truth right) result (domain_truth left) (domain_truth right) good bad ∙ (λ i. logical g (here i) (later i)) in
      inr (omega (arith, length-append xs ys), on_joined xs ys a b first last (is_so a xs h) (is_so b ys k) ∙ sym value)
