-- Entries by their places.
use Rattle.std.{proofs.Common.{◌≡◌, ◌+◌, ◌<◌, ◌∙◌, ℕ, zero, suc, List, [], ◌∷◌, ◌++◌, Some, None, length, take, get_or, slice_get, refl, ap, arith}, specs.Map.{keys_of}, proofs.lemmas.List.{take_more}}

module _ {X : Type 0} where
  -- the entry at a place has the name there
  pub name_at : (es : List (List ℕ × X)) (i : ℕ) (e : List ℕ × X) → slice_get es i ≡ Some e → get_or (keys_of es) i [] ≡ e.0
  name_at [] i e is = let never : None ≡ Some e = is in absurd cc
  name_at (x ∷ es) zero e is = let same : x ≡ e = cc in ap (λ y. y.0) same
  name_at (x ∷ es) (suc i) e is = name_at es i e is

  pub within_names : (es : List (List ℕ × X)) (i : ℕ) (e : List ℕ × X) → slice_get es i ≡ Some e → i < length (keys_of es)
  within_names [] i e is = let never : None ≡ Some e = is in absurd cc
  within_names (x ∷ es) zero e is = omega arith
  within_names (x ∷ es) (suc i) e is = let rest = within_names es i e is in omega (arith, rest)

  pub entry_at : (es : List (List ℕ × X)) (i : ℕ) → i < length es → (e : List ℕ × X) × (slice_get es i ≡ Some e)
  entry_at [] i under = absurd (omega (arith, under))
  entry_at (x ∷ es) zero under = (x, refl)
  entry_at (x ∷ es) (suc i) under = entry_at es i (omega (arith, under))

  -- the names up to a place, and the one there
  pub names_more : (es : List (List ℕ × X)) (i n : ℕ) (e : List ℕ × X) → slice_get es i ≡ Some e → n ≡ i + 1 → take n (keys_of es) ≡ take i (keys_of es) ++ e.0 ∷ []
  names_more es i n e is next =
      ap (λ m. take m (keys_of es)) next ∙ (take_more (keys_of es) i [] (within_names es i e is) ∙ ap (λ y. take i (keys_of es) ++ y ∷ []) (name_at es i e is))
