use Rattle.{std.proofs.lemmas.Result.{IfOk-weaker}, sheet_cli.{proofs.EditLemmas.{change_carried_out}, proofs.OneEvent.{plain_edited}}}
use Rattle.sheet_cli.proofs.answer.carry_out.Goals as goal

pub returns-in-Change-clause-ok : goal.returns-in-Change-clause-ok
returns-in-Change-clause-ok c =
    IfOk-weaker c.outcome_text.result _ _ (λ text e. rw c.in-Change.is (change_carried_out c.in-Change.change _ _ _ (plain_edited _ _ _ _ _ c.plain_lent.ensures e))) c.outcome_text.ensures.text
