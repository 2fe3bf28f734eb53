-- Lists in which every entry comes after all entries that it needs.
use Rattle.std.{specs.Prelude.{◌≡◌, ◌⊎◌, List, [], ◌∷◌}, specs.List.{Contains}}

-- every entry comes after all that it needs, except for what is done already
abbrev pub Follows : {A : Type 0} → (A → A → Type 0) → (A → Type 0) → List A → Type 0
Follows Needs Done [] = Unit {0}
Follows {A} Needs Done (a ∷ rest) = ((b : A) → Needs a b → Done b) × Follows Needs (λ x. Done x ⊎ (x ≡ a)) rest

-- no entry occurs twice
abbrev pub IsOnce : {A : Type 0} → List A → Type 0
IsOnce [] = Unit {0}
IsOnce (x ∷ xs) = (Contains xs x → ⊥) × IsOnce xs
