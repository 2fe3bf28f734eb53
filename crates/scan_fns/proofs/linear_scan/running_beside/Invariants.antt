use Rattle.{std.proofs.Common.{◌-◌, length, vec_len}, scan_fns.{specs.LinearScan.{left_rule}, proofs.LeftScans.{AreLinesTo}}}
use Rattle.scan_fns.proofs.linear_scan.running_beside.Given as goal

abbrev pub invariant-loop-results : goal.invariant-loop-results
invariant-loop-results g l = AreLinesTo (left_rule (g.S.TwoNumbers.gives l.step) l.numbers 1 l.count) l.numbers l.count l.results

abbrev pub decreases-loop-results : goal.decreases-loop-results
decreases-loop-results g l = length l.numbers - vec_len l.results
