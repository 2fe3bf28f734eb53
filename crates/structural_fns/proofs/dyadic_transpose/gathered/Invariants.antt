use Rattle.{std.proofs.Common.{◌≡◌, ◌++◌, drop, length}, structural_fns.specs.DyadicTranspose.{axes_to, gathered}}
use Rattle.structural_fns.proofs.dyadic_transpose.gathered.Given as goal

abbrev pub invariant-loop-place : goal.invariant-loop-place
invariant-loop-place l = record {
  made : l.at.items ++ gathered (drop l.place (axes_to l.fn.axes)) l.index ≡ gathered (axes_to l.fn.axes) l.index;
  long : length l.at.items ≡ l.place;
  inline : l.at.capacity ≡ 4;
}
