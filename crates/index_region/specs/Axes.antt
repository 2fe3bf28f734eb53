-- The places along an axis, counted from 0.
use Rattle.std.specs.Prelude.{ℕ, List, get_or}

-- a scalar has one place along any axis
abbrev pub places_along : List ℕ → ℕ → ℕ
places_along shape axis = get_or shape axis 1
