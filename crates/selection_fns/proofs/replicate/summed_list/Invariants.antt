use Rattle.std.{proofs.Common.{◌≡◌, ◌+◌, ◌≤◌, map, drop, unsigned_abs}, specs.Prelude.{sum}}
use Rattle.selection_fns.proofs.replicate.summed_list.Given as goal

abbrev pub invariant-loop-count : goal.invariant-loop-count
invariant-loop-count l = record {
  so_far : l.total + sum (map unsigned_abs (drop l.count-index l.fn.counts)) ≡ sum (map unsigned_abs l.fn.counts);
  within : l.total ≤ 1048576;
}
