use Rattle.std.{proofs.Common.{◌∙◌, rules, ap, subst, sym, SFits, w64}, proofs.lemmas.Int.{to_z-of_z}, proofs.lemmas.Result.{IfOk-weaker}}
use Rattle.{apl_expr.specs.Lines.{Meaning, meaning}, sheet_cli.{specs.Answer.{IsCarriedOut, state_of}, specs.Printed.{printed_bytes}, proofs.EditLemmas.{opening_carried_out, asked_of}}}
use Rattle.sheet_cli.proofs.answer.carry_out_other.Goals as goal

pub returns-in-Open-clause-ok : goal.returns-in-Open-clause-ok
returns-in-Open-clause-ok c =
    let fits : SFits w64 c.in-Open.number = search rules in
    let opened = rw (to_z-of_z w64 c.in-Open.number fits, c.into_inner.ensures) at c.open.ensures in
    IfOk-weaker c.count_text.result _ _ (λ text e. subst (λ (m : Meaning). IsCarriedOut (state_of c.args.desk.now) m (printed_bytes text) (state_of c.open.new.self)) (ap meaning (sym c.in-Open.is ∙ c.replace.ensures.value)) (opening_carried_out c.in-Open.number c.in-Open.change.value _ _ _ (asked_of _ _ _ _ _ opened e))) c.count_text.ensures.text
