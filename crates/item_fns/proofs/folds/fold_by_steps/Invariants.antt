use Rattle.{std.proofs.Common.{◌≡◌, ◌+◌, ◌≤◌, drop, length, Ok}, item_fns.specs.Folds.{folded}}
use Rattle.item_fns.proofs.folds.fold_by_steps.Given as goal

abbrev pub invariant-loop-before : goal.invariant-loop-before
invariant-loop-before g l = record {
  folded : folded (g.S.TwoNumbers.gives l.step) (drop l.before l.numbers) ≡ Ok l.result;
  below : l.before + 1 ≤ length l.numbers;
}
