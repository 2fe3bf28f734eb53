use Rattle.{std.proofs.Common.{◌≡◌, ◌≤◌}, operator_fns.{specs.RowByColumn.{last_error_or}, proofs.Meetings.{firsts}}}
use Rattle.operator_fns.proofs.row_by_column.last_error.Given as goal

abbrev pub invariant-loop-place : goal.invariant-loop-place
invariant-loop-place g l = record {
  same : last_error_or l.error (firsts (g.M.Meeting.met l.lines) l.count) ≡ last_error_or l.error (firsts (g.M.Meeting.met l.lines) l.place);
  below : l.place ≤ l.count;
}
