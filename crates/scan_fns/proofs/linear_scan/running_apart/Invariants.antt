use Rattle.{std.proofs.Common.{◌≡◌, ◌*◌, ◌%◌}, scan_fns.specs.LinearScan.{left_rule, AreResultsTo}}
use Rattle.scan_fns.proofs.linear_scan.running_apart.Given as goal

abbrev pub invariant-loop-place : goal.invariant-loop-place
invariant-loop-place g l = record {
  so_far : AreResultsTo l.place (left_rule (g.S.TwoNumbers.gives l.step) l.numbers l.stride l.lines.count) l.numbers l.results;
  here : l.block_place ≡ l.place % (l.lines.count * l.stride);
}
