use Rattle.{std.proofs.Common.{◌∙◌, ap, sym, arith, Err}, item_fns.proofs.Errors.{passed_on}}
use Rattle.operator_fns.proofs.Meetings.{folded_last, one_more, last_entry_failed, entry_failed, fold_failed}
use Rattle.operator_fns.proofs.row_by_column.fold_row.Goals as goal

pub returns-in_err-result-clause-is : goal.returns-in_err-result-clause-is
returns-in_err-result-clause-is g c =
    passed_on _ c.in_err-result.field-0.0 c.from_residual.ensures
    ∙ sym (last_entry_failed (g.M.Meeting.fold c.args.lines.now) (g.M.Meeting.met c.args.lines.now) _ c.in_err-result.field-0.0 (omega arith)
    (sym (rw c.count-last.ensures at c.in_err-result.ensures.is)))

pub loop-place-init : goal.loop-place-init
loop-place-init g c =
    let made = folded_last (g.M.Meeting.fold c.args.lines.now) (g.M.Meeting.met c.args.lines.now) _ c.in_ok-result.result (omega arith)
    (sym (rw c.count-last.ensures at c.in_ok-result.ensures.is)) in
    record { folded = rw c.count-last.ensures made; below = omega arith; typed = c.in_ok-result.ensures.typed }

pub returns-in_err-here-clause-is : goal.returns-in_err-here-clause-is
returns-in_err-here-clause-is g c =
    passed_on _ c.in_err-here.field-0.0 c.from_residual-in_err-here.ensures
    ∙ sym (entry_failed _ _ _ c.loop-place.place c.loop-place.result (omega arith) (omega arith) c.loop-place.invariant.folded c.in_err-here.field-0.0
    (sym c.in_err-here.ensures.is))

pub returns-in-Err-clause-is : goal.returns-in-Err-clause-is
returns-in-Err-clause-is g c =
    sym (fold_failed _ _ _ c.loop-place.place c.loop-place.result (omega arith) (omega arith) c.loop-place.invariant.folded c.in_ok-here.here c.in-Err.kind
    (sym c.in_ok-here.ensures.is) (sym c.in-Err.ensures.is)
    ∙ ap Err (sym c.last_error.ensures))

pub loop-place-preserved : goal.loop-place-preserved
loop-place-preserved g c = record {
  folded = one_more _ _ _ c.loop-place.place c.loop-place.result (omega arith) (omega arith) c.loop-place.invariant.folded c.in_ok-here.here c.in-Ok.folded
      (sym c.in_ok-here.ensures.is) (sym c.in-Ok.ensures.is);
  below = omega arith;
  typed = c.in-Ok.ensures.typed;
}
