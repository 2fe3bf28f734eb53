use Rattle.{std.{proofs.Common.{◌≡◌, ◌-◌, ◌+◌}, specs.List.{list_all, range_with_len}}, structural_fns.specs.DyadicTranspose.{axes_to, occurs, greatest_of}}
use Rattle.structural_fns.proofs.dyadic_transpose.are_axes.Given as goal

abbrev pub invariant-loop-axis : goal.invariant-loop-axis
invariant-loop-axis l =
    list_all (occurs (axes_to l.fn.axes)) (range_with_len (l.axis + 1) (greatest_of (axes_to l.fn.axes) - l.axis))
    ≡ list_all (occurs (axes_to l.fn.axes)) (range_with_len 1 (greatest_of (axes_to l.fn.axes)))
