use Rattle.{std.proofs.Common.{◌≡◌, ◌+◌, ◌≤◌, drop, pos, Ok}, item_fns.specs.Folds.{strided, folded}}
use Rattle.item_fns.proofs.folds.fold_numbers.Given as goal

abbrev pub invariant-loop-before : goal.invariant-loop-before
invariant-loop-before g l = record {
  folded : folded (g.S.TwoNumbers.gives l.step) (drop l.before (strided (pos 0) l.numbers l.first l.stride l.count)) ≡ Ok l.result;
  below : l.before + 1 ≤ l.count;
}
