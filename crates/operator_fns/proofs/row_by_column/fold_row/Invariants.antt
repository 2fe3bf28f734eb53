use Rattle.{std.proofs.Common.{◌+◌, ◌≤◌}, operator_fns.proofs.Meetings.{FoldedTo}}
use Rattle.operator_fns.proofs.row_by_column.fold_row.Given as goal

abbrev pub invariant-loop-place : goal.invariant-loop-place
invariant-loop-place g l = record {
  folded : FoldedTo (g.M.Meeting.fold l.lines) (g.M.Meeting.met l.lines) (g.M.Meeting.places l.lines) l.place l.result;
  below : l.place + 1 ≤ g.M.Meeting.places l.lines;
  typed : g.M.Meeting.is_output l.lines l.result;
}
