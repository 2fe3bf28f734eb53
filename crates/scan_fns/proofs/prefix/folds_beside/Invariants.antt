use Rattle.{std.proofs.Common.{◌-◌, length, vec_len}, scan_fns.{specs.Prefixes.{fold_to}, proofs.LeftScans.{AreLinesTo}}}
use Rattle.scan_fns.proofs.prefix.folds_beside.Given as goal

abbrev pub invariant-loop-results : goal.invariant-loop-results
invariant-loop-results g l = AreLinesTo (fold_to (g.P.Prefix.step l.none) l.numbers 1 l.count) l.numbers l.count l.results

abbrev pub decreases-loop-results : goal.decreases-loop-results
decreases-loop-results g l = length l.numbers - vec_len l.results
