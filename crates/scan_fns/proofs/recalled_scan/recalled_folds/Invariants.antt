use Rattle.std.proofs.Common.{◌≡◌, ◌≤◌, length, vec_len, vec_capacity}
use Rattle.scan_fns.{specs.LinearScan.{AreResultsTo}, specs.Prefixes.{fold_to}, specs.RecalledScan.{AreRecalled}}
use Rattle.scan_fns.proofs.recalled_scan.recalled_folds.Given as goal

abbrev pub invariant-loop-place : goal.invariant-loop-place
invariant-loop-place g l = record {
  so_far : AreResultsTo l.place (fold_to (g.S.TwoNumbers.gives l.step) l.numbers l.lines.stride l.lines.count) l.numbers l.results;
  long : vec_len l.recalled ≡ l.place;
  room : length l.numbers ≤ vec_capacity l.recalled;
  recalled : AreRecalled (g.S.TwoNumbers.gives l.step) l.numbers l.lines.stride l.lines.count l.recalled.items;
}
