use Rattle.{std.proofs.Common.{◌≡◌, ◌++◌, drop, length}, change_core.specs.Ways.{meets}, structural_fns.specs.DyadicTranspose.{axes_from_zero}}
use Rattle.structural_fns.proofs.dyadic_transpose.meets.Given as goal

abbrev pub invariant-loop-axis : goal.invariant-loop-axis
invariant-loop-axis l = record {
  made : l.met ++ meets (axes_from_zero l.fn.axes) l.fn.intervals l.axis (drop l.axis l.fn.shape) ≡ meets (axes_from_zero l.fn.axes) l.fn.intervals 0 l.fn.shape;
  long : length l.met ≡ l.axis;
}
