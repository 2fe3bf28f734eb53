-- Boxes: an interval on each axis.
use Rattle.std.{specs.Prelude.{ℕ, ◌+◌, ◌-◌, ◌*◌, ◌/◌, ◌%◌, List, [], ◌∷◌, Bool, ◌&&◌, nat_le, nat_lt, nat_eq, length, map, min, max, Option, Some, None, if◌then◌else◌}, specs.List.{list_all, list_any}, specs.Cmp.Lexicographic.{pointwise}}
use Rattle.arrays_core.{specs.Limits.{most_axes}, specs.Shapes.{index_after}}

-- the first and the last place of an axis, counted from 1
abbrev pub Interval : Type 0
Interval = ℕ × ℕ

abbrev pub interval_length : Interval → ℕ
interval_length s = s.1 + 1 - s.0

-- the number of places
abbrev pub box_size : List Interval → ℕ
box_size [] = 1
box_size (s ∷ region) = interval_length s * box_size region

-- at most four intervals, none of them empty
abbrev pub is_box : List Interval → Bool
is_box region = nat_le (length region) most_axes && list_all (λ s. nat_le 1 s.0 && nat_le s.0 s.1) region

-- the index list lies in the box
abbrev pub is_within : List Interval → List ℕ → Bool
is_within = pointwise (λ s i. nat_le s.0 i && nat_le i s.1)

-- the box lies in the shape: each interval lies on its axis, and is not empty
abbrev pub fits : List Interval → List ℕ → Bool
fits = pointwise (λ s n. nat_le 1 s.0 && nat_le s.0 s.1 && nat_le s.1 n)

-- the offset of an index list in the box, in row-major order
abbrev pub box_offset : List Interval → List ℕ → ℕ
box_offset (s ∷ region) (i ∷ index) = (i - s.0) * box_size region + box_offset region index
box_offset _ _ = 0

-- the index list of the box at an offset in row-major order
abbrev pub walk_at : List Interval → ℕ → List ℕ
walk_at [] p = []
walk_at (s ∷ region) p = (s.0 + p / box_size region) ∷ walk_at region (p % box_size region)

-- the least box that contains both
abbrev pub hull_of : List Interval → List Interval → List Interval
hull_of (s ∷ region) (t ∷ others) = (min s.0 t.0, max s.1 t.1) ∷ hull_of region others
hull_of _ _ = []

-- the intersection
abbrev pub meet_of : List Interval → List Interval → List Interval
meet_of (s ∷ region) (t ∷ others) = (max s.0 t.0, min s.1 t.1) ∷ meet_of region others
meet_of _ _ = []

-- all places of a shape
abbrev pub whole_of : List ℕ → List Interval
whole_of axes = map (λ n. (1, n)) axes

-- the part that lies in a shape; an axis without an interval is whole
abbrev pub met : List ℕ → List Interval → List Interval
met [] region = []
met (n ∷ axes) [] = (1, n) ∷ met axes []
met (n ∷ axes) (s ∷ region) = (max 1 s.0, min s.1 n) ∷ met axes region

abbrev pub is_empty : List Interval → Bool
is_empty region = list_any (λ s. nat_lt s.1 s.0) region

-- None for a box with an empty interval
abbrev pub unless_empty : List Interval → Option (List Interval)
unless_empty region = if is_empty region then None else Some region

-- the hull of two boxes; either may be missing
abbrev pub join_boxes : Option (List Interval) → Option (List Interval) → Option (List Interval)
join_boxes None b = b
join_boxes (Some a) None = Some a
join_boxes (Some a) (Some b) = Some (hull_of a b)

-- the cover of two index lists: axes in front of the first on which they differ have the common index. That axis runs from one index to the
-- other. Later axes are whole
abbrev pub cover_between : List ℕ → List ℕ → List ℕ → List Interval
cover_between (n ∷ axes) (i ∷ first) (j ∷ last) = (i, j) ∷ (if nat_eq i j then cover_between axes first last else whole_of axes)
cover_between _ _ _ = []

-- the least box that contains the places `first` to `last` of a shape, counted from 0 in row-major order
abbrev pub cover : List ℕ → ℕ → ℕ → List Interval
cover axes first last = cover_between axes (index_after axes first) (index_after axes last)
