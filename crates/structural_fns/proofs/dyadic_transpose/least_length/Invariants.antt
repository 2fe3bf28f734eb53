use Rattle.{std.proofs.Common.{◌≡◌, drop}, structural_fns.{specs.DyadicTranspose.{axes_to, lengths_at, least_of}, specs.LeastLength.{least_with}}}
use Rattle.structural_fns.proofs.dyadic_transpose.least_length.Given as goal

abbrev pub invariant-loop-place : goal.invariant-loop-place
invariant-loop-place l =
    least_with l.least (lengths_at (drop l.place (axes_to l.fn.axes)) (drop l.place l.lengths) l.fn.axis) ≡ least_of (lengths_at (axes_to l.fn.axes) l.lengths l.fn.axis)
