-- The fold of a list and a later one, by an associative function.
use Rattle.std.proofs.Common.{◌≡◌, ◌<◌, List, [], ◌∷◌, ◌++◌, length, refl, ap, ◌∙◌, arith, ℤ, Result, Ok, Err}
use Rattle.{arrays_core.{specs.declared.item.Kind.{Kind}, specs.Items.{and_then}}, item_fns.specs.Folds.{folded, IsAssociative}}

module _ (f : ℤ → ℤ → Result ℤ Kind) (law : IsAssociative f) where
  -- the function of the folds of both, or the error of one
  abbrev pub both : Result ℤ Kind → Result ℤ Kind → Result ℤ Kind
  both earlier later = and_then later (λ b. and_then earlier (λ a. f a b))

  before : (x : ℤ) (earlier later : Result ℤ Kind) → and_then (both earlier later) (f x) ≡ both (and_then earlier (f x)) later
  before x (Ok a) (Ok b) = law.either x a b
  before x (Err k) (Ok b) = refl
  before x (Ok a) (Err k) = refl
  before x (Err j) (Err k) = refl

  pub joined : (xs ys : List ℤ) → 0 < length xs → 0 < length ys → folded f (xs ++ ys) ≡ both (folded f xs) (folded f ys)
  joined [] ys h k = absurd (omega arith)
  joined (x ∷ []) [] h k = absurd (omega arith)
  joined (x ∷ []) (y ∷ ys) h k = refl
  joined (x ∷ z ∷ xs) ys h k = ap (λ r. and_then r (f x)) (joined (z ∷ xs) ys (omega arith) k) ∙ before x (folded f (z ∷ xs)) (folded f ys)

  some : (xs : List ℤ) (a : ℤ) → folded f xs ≡ Ok a → 0 < length xs
  some [] a h = let no : ⊥ = cc in absurd no
  some (x ∷ xs) a h = omega arith

  -- where there is no error
  pub joined_values : (xs ys : List ℤ) (a b : ℤ) → folded f xs ≡ Ok a → folded f ys ≡ Ok b → folded f (xs ++ ys) ≡ f a b
  joined_values xs ys a b h k = joined xs ys (some xs a h) (some ys b k) ∙ (λ i. both (h i) (k i))
