-- The condition under which reductions and scans grow with their argument.
use Rattle.std.specs.Prelude.{◌==◌, ◌&&◌, not, Bool, length}
use Rattle.function_names.{specs.declared.along.Along.{Along}, specs.Axes.{axis_at, is_axis}}
use Rattle.arrays_core.specs.Arrays.{ArrayValue}
use Rattle.change_core.{specs.Growth.{one_grows}, specs.RuleModels.{Growth}}

-- the axis of the lines is one of the array, and not the first
abbrev pub is_along_a_later_axis : Along → ArrayValue → Bool
is_along_a_later_axis along b = is_axis (length b.shape) along && not (axis_at (length b.shape) along == 0)

-- the old lines are unchanged, and more lines follow them
abbrev pub lines_grow : Along → Growth
lines_grow along = one_grows (is_along_a_later_axis along)
