use Rattle.std.{proofs.Common.{◌<◌, ◌∙◌, [], length, ap, arith, sym}, proofs.lemmas.Bool.{eqb-true, eqb-false}, proofs.lemmas.Result.{on_ok_weaker, on_err_weaker}}
use Rattle.sheet_cli.{specs.Progress.{line_after}, proofs.Devices.{Appends-none}, proofs.RunLemmas.{Finishes-none, Finishes-line, StopsAtEnd-line}}
use Rattle.sheet_cli.proofs.run_loop.answer_last.Goals as goal

pub returns-then-is_empty-clause-ok : goal.returns-then-is_empty-clause-ok
returns-then-is_empty-clause-ok g c = ([], Appends-none _, Finishes-none _ _ _ _ (eqb-true (length c.stripped-line.result.now) 0 (sym c.if-is_empty.ensures)) (c.stripped-line.ensures ∙ ap (line_after c.args.progress.now.tally.lines) c.as_slice.ensures))

pub returns-clause-ok : goal.returns-clause-ok
returns-clause-ok g c =
    let some : 0 < length c.stripped-line.result.now = omega (arith, eqb-false (length c.stripped-line.result.now) 0 (sym c.if-is_empty.ensures)) in
    on_ok_weaker c.answer_line.result (λ a. (a.0, a.1, Finishes-line _ _ _ _ _ _ _ some c.answer_line.ensures.lines (c.stripped-line.ensures ∙ ap (line_after c.args.progress.now.tally.lines) c.as_slice.ensures) a.2)) c.answer_line.ensures.ok

pub returns-clause-err : goal.returns-clause-err
returns-clause-err g c =
    let some : 0 < length c.stripped-line.result.now = omega (arith, eqb-false (length c.stripped-line.result.now) 0 (sym c.if-is_empty.ensures)) in
    on_err_weaker c.answer_line.result (λ a. (a.0, a.2, StopsAtEnd-line _ _ _ a.1 _ _ _ _ some (c.stripped-line.ensures ∙ ap (line_after c.args.progress.now.tally.lines) c.as_slice.ensures) a.3)) c.answer_line.ensures.err
