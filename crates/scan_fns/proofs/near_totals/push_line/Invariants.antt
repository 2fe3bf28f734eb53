use Rattle.std.{proofs.Common.{◌≡◌, ◌-◌, ◌<◌, pos, w64}, specs.Int.{int_wrap}}
use Rattle.scan_fns.{specs.LinearScan.{AreResultsTo}, specs.NearTotals.{AreNear, wrapped_to}, proofs.NearTotals.{total_to}}
use Rattle.scan_fns.proofs.near_totals.push_line.Given as goal

abbrev pub invariant-loop-place : goal.invariant-loop-place
invariant-loop-place l = record {
  so_far : AreResultsTo l.place (wrapped_to l.turned l.numbers 1 l.count) l.numbers l.results;
  fresh : l.place ≡ l.first → l.total ≡ pos 0;
  last : l.first < l.place → l.total ≡ int_wrap w64 (total_to l.turned l.numbers 1 l.count (l.place - 1));
  near : l.doubt ≡ 0 → AreNear l.numbers l.first l.place;
}
