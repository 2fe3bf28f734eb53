use Rattle.{std.proofs.Common.{◌≡◌, ◌-◌, ◌<◌, get_or, pos}, scan_fns.specs.LinearScan.{left_rule, AreResultsTo}}
use Rattle.scan_fns.proofs.linear_scan.push_line.Given as goal

abbrev pub invariant-loop-place : goal.invariant-loop-place
invariant-loop-place g l = record {
  so_far : AreResultsTo l.place (left_rule (g.S.TwoNumbers.gives l.step) l.numbers 1 l.count) l.numbers l.results;
  last : l.first < l.place → get_or l.results.items (l.place - 1) (pos 0) ≡ l.before;
}
