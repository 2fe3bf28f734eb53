use Rattle.{std.proofs.Common.{◌+◌, ◌<◌}, scan_fns.{specs.LinearScan.{AreResultsTo}, specs.Prefixes.{fold_to}, proofs.Prefixes.{IsFoldKept}}}
use Rattle.scan_fns.proofs.prefix.push_folds.Given as goal

abbrev pub invariant-loop-place : goal.invariant-loop-place
invariant-loop-place g l = record {
  so_far : AreResultsTo l.place (fold_to (g.P.Prefix.step l.fn.none) l.numbers 1 l.count) l.numbers l.results;
  kept : l.place < l.first + l.count → IsFoldKept g.P.Prefix.step g.P.Prefix.gives l.fn.none l.numbers 1 l.count l.place l.line;
}
