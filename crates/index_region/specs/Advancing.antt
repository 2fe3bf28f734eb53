-- The step of a walk to the next index list of a box.
use Rattle.std.specs.Prelude.{ℕ, ◌+◌, List, ◌∷◌, Bool, true, false, nat_lt, if◌then◌else◌}
use Rattle.index_region.specs.Boxes.{Interval}

-- one more axis in front: its index moves if the later axes have wrapped around
abbrev pub stepped : Interval → ℕ → List ℕ × Bool → List ℕ × Bool
stepped s i (index, false) = (i ∷ index, false)
stepped s i (index, true) = if nat_lt i s.1 then ((i + 1) ∷ index, false) else (s.0 ∷ index, true)

-- the next index list of a box in row-major order, and whether it wrapped around to the first
abbrev pub next_in : List Interval → List ℕ → List ℕ × Bool
next_in (s ∷ region) (i ∷ index) = stepped s i (next_in region index)
next_in _ index = (index, true)
