use Rattle.{std.proofs.Common.{◌<◌, ◌≤◌, ◌*◌, drop}, arrays_core.specs.Shapes.{size as size_of}}
use Rattle.structural_fns.{specs.DyadicTranspose.{axes_to, stride_to as total_stride}, proofs.SteppedRows.{StrideSoFar}}
use Rattle.structural_fns.proofs.dyadic_transpose.stride_to.Given as goal

abbrev pub invariant-loop-k : goal.invariant-loop-k
invariant-loop-k l = record {
  few : l.places ≤ 1048576;
  bound : l.stride ≤ l.k * 1048576;
  made : 0 < size_of l.lengths → StrideSoFar (drop l.k l.lengths) (drop l.k (axes_to l.fn.axes)) l.axis l.places l.stride (total_stride l.lengths (axes_to l.fn.axes) l.axis);
}
