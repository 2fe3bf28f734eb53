-- Copies of arguments.
use Rattle.std.specs.Prelude.{◌≡◌, List, [], ◌∷◌, Option, IfSome}
use Rattle.arrays_core.specs.Arrays.{ArrayValue}

-- each argument has an equal copy, or none
abbrev pub AreCopies : List ArrayValue → List (Option ArrayValue) → Type 0
AreCopies [] [] = Unit {0}
AreCopies (a ∷ args) (copy ∷ copies) = IfSome copy (λ b. b ≡ a) × AreCopies args copies
AreCopies _ _ = ⊥
