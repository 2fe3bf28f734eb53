-- The limits of an array.
use Rattle.std.specs.Prelude.{ℕ}

-- the greatest number of axes of an array
abbrev pub most_axes : ℕ
most_axes = 4

-- the greatest length of an axis
abbrev pub longest_axis : ℕ
longest_axis = 1048576

-- the greatest number of places of an array
abbrev pub most_places : ℕ
most_places = 1048576
