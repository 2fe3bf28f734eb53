-- Uses by the place in the ravel.
use Rattle.std.specs.Prelude.{ℕ, ◌-◌, ◌%◌, List, [], ◌∷◌, Bool, ◌&&◌, Option, Some, None, if◌then◌else◌, nat_le, nat_lt, map, min}
use Rattle.arrays_core.specs.Shapes.{size, places_before, index_after}
use Rattle.change_core.specs.RuleModels.{Use}
use Rattle.index_region.specs.Boxes.{Interval, whole_of, cover}

-- the place lies in the interval
abbrev pub lies_in : Interval → ℕ → Bool
lies_in s i = nat_le s.0 i && nat_le i s.1

-- the first index list of a box, and the last
abbrev pub first_of_box : List Interval → List ℕ
first_of_box region = map (λ s. s.0) region

abbrev pub last_of_box : List Interval → List ℕ
last_of_box region = map (λ s. s.1) region

-- the least box that contains the places `lo` to `hi` of a shape, counted from 0; places beyond the end are left out
abbrev pub cover_in : List ℕ → ℕ → ℕ → Option (List Interval)
cover_in shape lo hi = if nat_lt lo (size shape) then Some (cover shape lo (min hi (size shape - 1))) else None

-- the items in ravel order, starting over when they run out
abbrev pub by_place : List ℕ → List ℕ → Use
by_place from shape = record {
  reads = λ index. index_after from (places_before shape index % size from) ∷ [];
  box = λ region. if nat_lt (size from) (size shape) then Some (whole_of shape) else cover_in shape (places_before from (first_of_box region)) (places_before from (last_of_box region));
}
