-- Names are compared by their texts.
use Rattle.std.{proofs.Common.{◌≡◌, ℕ, List, [], ◌∷◌, true, refl}, specs.Str.{bytes_eq}, specs.Cmp.{IsEquivalence}, proofs.lemmas.Bool.{and_parts, false≢true}, proofs.lemmas.Cmp.{nat_list_eq_equiv}, proofs.lemmas.Slice.Eq.{bytes_eq-Decides}}
use lib.Pointwise.{pointwise}

pub names_equal : IsEquivalence bytes_eq
names_equal = nat_list_eq_equiv

pub equal-true : (a b : List ℕ) → bytes_eq a b ≡ true → a ≡ b
equal-true a b = (bytes_eq-Decides a b).0

pub equal-same : (a b : List ℕ) → a ≡ b → bytes_eq a b ≡ true
equal-same a b = (bytes_eq-Decides a b).1

-- so are lists of names
pub lists-true : (xs ys : List (List ℕ)) → pointwise bytes_eq xs ys ≡ true → xs ≡ ys
lists-true [] [] h = refl
lists-true [] (y ∷ ys) h = absurd (false≢true h)
lists-true (x ∷ xs) [] h = absurd (false≢true h)
lists-true (x ∷ xs) (y ∷ ys) h = let parts = and_parts _ _ h in λ i. equal-true x y parts.0 i ∷ lists-true xs ys parts.1 i
