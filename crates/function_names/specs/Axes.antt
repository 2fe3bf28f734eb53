-- The axis along which a function works, counted from 0.
use Rattle.std.specs.Prelude.{ℕ, ◌-◌, pos, int_le, unsigned_abs, Bool, true, ◌&&◌}
use Rattle.function_names.{specs.declared.along.Along.{Along}, specs.declared.along.Along.TheVariants.{First, Last, Axis}}

-- the axis exists in an array of this rank
abbrev pub is_axis : ℕ → Along → Bool
is_axis rank First = true
is_axis rank Last = true
is_axis rank (Axis k) = int_le (pos 1) k && int_le k (pos rank)

-- the index of the axis
abbrev pub axis_at : ℕ → Along → ℕ
axis_at rank First = 0
axis_at rank Last = rank - 1
axis_at rank (Axis k) = unsigned_abs k - 1
