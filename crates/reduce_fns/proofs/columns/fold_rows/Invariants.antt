use Rattle.{std.proofs.Common.{◌≡◌, ℕ, ◌+◌, ◌*◌, ◌<◌, ◌≤◌, get_or, drop, length, pos, Ok}, item_fns.specs.Folds.{strided, folded}}
use Rattle.reduce_fns.proofs.columns.fold_rows.Given as goal

abbrev pub invariant-loop-block : goal.invariant-loop-block
invariant-loop-block g l = record {
  long : length l.folds ≡ l.columns;
  folded : l.doubt ≡ 0 → (column : ℕ) → column < l.columns → folded (g.S.TwoNumbers.gives l.step) (drop (l.left + 4 * l.block) (strided (pos 0) l.rows column l.columns l.count)) ≡ Ok (get_or l.folds column (pos 0));
  below : l.left + 4 * l.block + 1 ≤ l.count;
}

abbrev pub invariant-loop-before : goal.invariant-loop-before
invariant-loop-before g l = record {
  long : length l.folds ≡ l.columns;
  folded : l.doubt ≡ 0 → (column : ℕ) → column < l.columns → folded (g.S.TwoNumbers.gives l.step) (drop l.before (strided (pos 0) l.rows column l.columns l.count)) ≡ Ok (get_or l.folds column (pos 0));
  below : l.before + 1 ≤ l.count;
}
