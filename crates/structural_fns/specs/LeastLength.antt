-- The least of some lengths, found one by one.
use Rattle.std.specs.Prelude.{ℕ, List, ◌∷◌, Option, Some, None}
use Rattle.structural_fns.specs.DyadicTranspose.{least_of}

-- the least of the lengths, and of the least so far if there is one
abbrev pub least_with : Option ℕ → List ℕ → ℕ
least_with None lengths = least_of lengths
least_with (Some n) lengths = least_of (n ∷ lengths)
