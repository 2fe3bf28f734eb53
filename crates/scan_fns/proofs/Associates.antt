-- Folds by associative functions: the left fold is the right fold.
use Rattle.std.proofs.Common.{◌≡◌, List, [], ◌∷◌, refl, ap, sym, ◌∙◌, ℤ, Result, Ok, Err}
use Rattle.{arrays_core.{specs.declared.item.Kind.{Kind}, specs.Items.{and_then}}, item_fns.specs.Folds.{folded, IsAssociative}}
use Rattle.{reduce_fns.specs.LeftFolds.{fold_on, folded_left}, scan_fns.proofs.Runs.{through, as_it_is}}

-- an error on the way is the error of all that follows, if only this kind is possible
stopped : (r : Result ℤ Kind) (k : Kind) → ((e : Kind) → r ≡ Err e → e ≡ k) → and_then {A = ℤ} {B = ℤ} r (λ z. Err k) ≡ Err k
stopped (Ok z) k h = refl
stopped (Err j) k h = ap Err (h j refl)

module _ (f : ℤ → ℤ → Result ℤ Kind) (law : IsAssociative f) where
  only_after : (x : ℤ) (r : Result ℤ Kind) (k : Kind) → ((e : Kind) → r ≡ Err e → e ≡ law.kind) → and_then r (f x) ≡ Err k → k ≡ law.kind
  only_after x (Ok z) k h e = law.only x z k e
  only_after x (Err j) k h e = let same : j ≡ k = cc in sym same ∙ h j refl

  one_error : (x : ℤ) (rest : List ℤ) (k : Kind) → folded f (x ∷ rest) ≡ Err k → k ≡ law.kind
  one_error x [] k h = let no : ⊥ = cc in absurd no
  one_error x (y ∷ rest) k h = only_after x (folded f (y ∷ rest)) k (λ e g. one_error y rest e g) h

  shift : (x y : ℤ) (rest : List ℤ) → and_then (f x y) (λ z. folded f (z ∷ rest)) ≡ and_then (folded f (y ∷ rest)) (f x)
  shift x y [] = as_it_is (f x y)
  shift x y (w ∷ rest) = decide (folded f (w ∷ rest)) (λ e g. one_error w rest e g)
    where
      decide : (r : Result ℤ Kind) → ((e : Kind) → r ≡ Err e → e ≡ law.kind) → and_then (f x y) (λ z. and_then r (f z)) ≡ and_then (and_then r (f y)) (f x)
      decide (Ok v) h = sym (law.either x y v)
      decide (Err k) h = stopped (f x y) k (λ e g. law.only x y e g ∙ sym (h k refl))

  from_left : (x : ℤ) (rest : List ℤ) → fold_on f x rest ≡ folded f (x ∷ rest)
  from_left x [] = refl
  from_left x (y ∷ rest) = through (f x y) (λ z. fold_on f z rest) (λ z. folded f (z ∷ rest)) (λ z. from_left z rest) ∙ shift x y rest

  pub left_is_right : (xs : List ℤ) → folded_left f xs ≡ folded f xs
  left_is_right [] = refl
  left_is_right (x ∷ rest) = from_left x rest
