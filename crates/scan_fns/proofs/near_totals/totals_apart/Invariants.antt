use Rattle.std.proofs.Common.{◌≡◌, ◌-◌, length, vec_len}
use Rattle.scan_fns.{specs.NearTotals.{AreNear, wrapped_to}, proofs.LeftScans.{AreLinesTo}}
use Rattle.scan_fns.proofs.near_totals.totals_apart.Given as goal

abbrev pub invariant-loop-results : goal.invariant-loop-results
invariant-loop-results l = record {
  lines : AreLinesTo (wrapped_to l.turned l.lines.numbers.now l.lines.stride l.lines.count) l.lines.numbers.now l.lines.stride l.results;
  near : l.doubt ≡ 0 → AreNear l.lines.numbers.now 0 (vec_len l.results);
}

abbrev pub decreases-loop-results : goal.decreases-loop-results
decreases-loop-results l = length l.lines.numbers.now - vec_len l.results
