use Rattle.{std.proofs.Common.{◌≡◌, ◌*◌, ◌%◌, length}, scan_fns.{specs.LinearScan.{AreResultsTo}, specs.Prefixes.{fold_to}, proofs.Prefixes.{AreFoldsKept}}}
use Rattle.scan_fns.proofs.prefix.folds_apart.Given as goal

abbrev pub invariant-loop-place : goal.invariant-loop-place
invariant-loop-place g l = record {
  so_far : AreResultsTo l.place (fold_to (g.P.Prefix.step l.none) l.numbers l.stride l.lines.count) l.numbers l.results;
  here : l.block_place ≡ l.place % (l.lines.count * l.stride);
  column : l.column ≡ l.place % l.stride;
  long : length l.kept.items ≡ l.stride;
  kept : AreFoldsKept g.P.Prefix.step g.P.Prefix.gives l.none l.numbers l.stride l.lines.count l.place l.kept.items;
}
