use Rattle.{std.{proofs.Common.{◌∙◌, sym}, proofs.lemmas.Result.{on_err_weaker}}, sheet_cli.proofs.AnswerLemmas.{AnswersLine-printed}}
use Rattle.sheet_cli.proofs.run_loop.answer_line.Goals as goal

pub returns-in-Ok-clause-err : goal.returns-in-Ok-clause-err
returns-in-Ok-clause-err g c =
    on_err_weaker c.put_all.result (λ p. (p.0, p.1, p.3, AnswersLine-printed _ _ _ _ _ _ (sym c.as_bytes.ensures ∙ p.2) c.in-Ok.ensures.ok)) c.put_all.ensures.err
