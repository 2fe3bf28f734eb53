use Rattle.{std.proofs.Common.{◌≡◌, drop, max}, structural_fns.specs.DyadicTranspose.{axes_to, greatest_of}}
use Rattle.structural_fns.proofs.dyadic_transpose.greatest.Given as goal

abbrev pub invariant-loop-place : goal.invariant-loop-place
invariant-loop-place l = max l.greatest (greatest_of (drop l.place (axes_to l.fn.axes))) ≡ greatest_of (axes_to l.fn.axes)
