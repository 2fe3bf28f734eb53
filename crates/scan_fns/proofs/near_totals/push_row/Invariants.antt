use Rattle.std.proofs.Common.{◌≡◌}
use Rattle.scan_fns.{specs.LinearScan.{AreResultsTo}, specs.NearTotals.{AreNear, wrapped_to}}
use Rattle.scan_fns.proofs.near_totals.push_row.Given as goal

abbrev pub invariant-loop-place : goal.invariant-loop-place
invariant-loop-place l = record {
  so_far : AreResultsTo l.place (wrapped_to l.turned l.numbers l.stride l.count) l.numbers l.results;
  near : l.doubt ≡ 0 → AreNear l.numbers l.first l.place;
}
