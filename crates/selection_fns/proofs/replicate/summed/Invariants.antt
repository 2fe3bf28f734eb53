use Rattle.{std.{proofs.Common.{◌≡◌, ◌+◌, ◌≤◌, map, drop, unsigned_abs}, specs.Prelude.{sum}}, index_region.specs.Arguments.{numbers}}
use Rattle.selection_fns.proofs.replicate.summed.Given as goal

abbrev pub invariant-loop-place : goal.invariant-loop-place
invariant-loop-place l = record {
  so_far : l.total + sum (map unsigned_abs (drop l.place (numbers l.fn.counts))) ≡ sum (map unsigned_abs (numbers l.fn.counts));
  within : l.total ≤ 1048576;
}
