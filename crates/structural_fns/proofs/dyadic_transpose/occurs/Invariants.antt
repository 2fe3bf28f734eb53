use Rattle.{std.proofs.Common.{◌≡◌, drop}, structural_fns.specs.DyadicTranspose.{axes_to, occurs}}
use Rattle.structural_fns.proofs.dyadic_transpose.occurs.Given as goal

abbrev pub invariant-loop-place : goal.invariant-loop-place
invariant-loop-place l = occurs (drop l.place (axes_to l.fn.axes)) l.fn.axis ≡ occurs (axes_to l.fn.axes) l.fn.axis
