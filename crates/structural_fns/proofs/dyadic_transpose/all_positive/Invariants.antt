use Rattle.{std.proofs.Common.{◌≡◌, drop}, index_region.specs.Arguments.{numbers}, structural_fns.specs.DyadicTranspose.{all_positive}}
use Rattle.structural_fns.proofs.dyadic_transpose.all_positive.Given as goal

abbrev pub invariant-loop-place : goal.invariant-loop-place
invariant-loop-place l = all_positive (drop l.place (numbers l.fn.axes)) ≡ all_positive (numbers l.fn.axes)
