use Rattle.std.proofs.Common.{◌≡◌, ◌-◌, length, vec_len}
use Rattle.scan_fns.{specs.NearTotals.{AreNear, wrapped_to}, proofs.LeftScans.{AreLinesTo}}
use Rattle.scan_fns.proofs.near_totals.totals_beside.Given as goal

abbrev pub invariant-loop-results : goal.invariant-loop-results
invariant-loop-results l = record {
  lines : AreLinesTo (wrapped_to l.turned l.numbers 1 l.count) l.numbers l.count l.results;
  near : l.doubt ≡ 0 → AreNear l.numbers 0 (vec_len l.results);
}

abbrev pub decreases-loop-results : goal.decreases-loop-results
decreases-loop-results l = length l.numbers - vec_len l.results
