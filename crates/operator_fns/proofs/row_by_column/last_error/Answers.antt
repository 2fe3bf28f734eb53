use Rattle.{std.proofs.Common.{◌∙◌, sym, arith}, operator_fns.proofs.Meetings.{fine_entry, failed_entry}}
use Rattle.operator_fns.proofs.row_by_column.last_error.Goals as goal

pub returns-in-Err : goal.returns-in-Err
returns-in-Err g c =
    sym (c.loop-place.invariant.same ∙ failed_entry (g.M.Meeting.met c.args.lines.now) c.args.error c.loop-place.place c.in-Err.kind (omega arith) (sym c.in-Err.ensures.is))

pub loop-place-preserved : goal.loop-place-preserved
loop-place-preserved g c = record {
  same = c.loop-place.invariant.same ∙ fine_entry (g.M.Meeting.met c.args.lines.now) c.args.error c.loop-place.place c.in_default.field-0 (omega arith)
      (sym c.in_default.ensures.is);
  below = omega (arith, c.loop-place.invariant.below);
}
