use Rattle.{std.proofs.Common.{◌≡◌, ℕ, ◌+◌, ◌*◌, ◌<◌, ◌≤◌, get_or, length, pos}, item_fns.specs.Numbers.{dyadic_on_numbers}, operator_fns.proofs.Meetings.{FoldedTo}}
use Rattle.operator_fns.proofs.row_folds.fold_columns.Given as goal

abbrev pub invariant-loop-place : goal.invariant-loop-place
invariant-loop-place l = record {
  long : length l.folds ≡ l.columns;
  folded : (column : ℕ) → column < l.columns
      → FoldedTo (dyadic_on_numbers l.fold) (λ k. dyadic_on_numbers l.each (get_or l.row k (pos 0)) (get_or l.rows (column + k * l.columns) (pos 0))) (length l.row) l.place (get_or l.folds column (pos 0));
  below : l.place + 1 ≤ length l.row;
}
