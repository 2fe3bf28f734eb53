use Rattle.{std.proofs.Common.{◌≡◌, drop}, change_core.specs.Ways.{meet_at}, structural_fns.specs.DyadicTranspose.{axes_from_zero}}
use Rattle.structural_fns.proofs.dyadic_transpose.meet_at.Given as goal

abbrev pub invariant-loop-from : goal.invariant-loop-from
invariant-loop-from l = (l.first, l.last) ≡ meet_at l.fn.axis l.fn.places (drop l.from (axes_from_zero l.fn.axes)) (drop l.from l.intervals)
