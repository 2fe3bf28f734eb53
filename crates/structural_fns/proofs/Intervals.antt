-- An interval of a box that lies in a shape.
use Rattle.std.{proofs.Common.{◌≡◌, ℕ, zero, suc, ◌≤◌, ◌<◌, List, [], ◌∷◌, length, get_or, arith, true}, proofs.lemmas.Bool.{and_parts, leb-true, false≢true}}
use Rattle.index_region.specs.Boxes.{Interval, fits}

-- it begins at 1 or later, has a place, and ends on the axis
pub record IsIntervalOn (s : Interval) (n : ℕ) : Type 0 where
  pub low : 1 ≤ s.0
  pub order : s.0 ≤ s.1
  pub high : s.1 ≤ n

pub interval_on : (region : List Interval) (shape : List ℕ) (axis d : ℕ) → fits region shape ≡ true → axis < length shape → IsIntervalOn (get_or region axis (0, 0)) (get_or shape axis d)
interval_on [] [] axis d h k = absurd (omega arith)
interval_on [] (n ∷ shape) axis d h k = absurd (false≢true h)
interval_on (s ∷ region) [] axis d h k = absurd (false≢true h)
interval_on (s ∷ region) (n ∷ shape) zero d h k =
    let parts = and_parts _ _ (and_parts _ _ h).0 in
    let first = and_parts _ _ parts.0 in
    record { low = leb-true 1 s.0 first.0; order = leb-true s.0 s.1 first.1; high = leb-true s.1 n parts.1 }
interval_on (s ∷ region) (n ∷ shape) (suc axis) d h k = interval_on region shape axis d (and_parts _ _ h).1 (omega arith)
