use Rattle.std.{proofs.Common.{◌<◌, ◌≤◌, ◌∙◌, Err, ap, arith, length, refl, subst}, specs.Str.{chars}, proofs.lemmas.Result.{IfOk-weaker}}
use Rattle.apl_expr.{specs.Answers.{IsAnswered, put_in}, specs.declared.fault.LineFault.{LineFault}}
use Rattle.sheet_cli.{specs.Lines.{longest_line, strip_cr}, proofs.AnswerLemmas.{answered_too_long, answered_not_text, answered_text}, proofs.EditLemmas.{answered_no_line, answered_too_large, answered_carried_out}}
use Rattle.sheet_cli.proofs.answer.answer.Goals as goal

pub returns-then-line-gt-LONGEST_LINE-clause-ok : goal.returns-then-line-gt-LONGEST_LINE-clause-ok
returns-then-line-gt-LONGEST_LINE-clause-ok c =
    let long : longest_line < length (strip_cr c.args.line.now) = rw (← c.strip_cr-line.ensures) (omega arith) in
    answered_too_long _ _ _ refl long

pub returns-in_default-clause-ok : goal.returns-in_default-clause-ok
returns-in_default-clause-ok c =
    let short : length (strip_cr c.args.line.now) ≤ longest_line = rw (← c.strip_cr-line.ensures) (omega arith) in
    answered_not_text _ _ _ refl short (rw (← c.strip_cr-line.ensures) c.in_default.ensures.cases.0)

pub returns-in-Ok-line_into-clause-ok : goal.returns-in-Ok-line_into-clause-ok
returns-in-Ok-line_into-clause-ok c =
    let utf8 = c.in-Ok.ensures.cases in
    IfOk-weaker c.carry_out.result _ _
    (λ text d. answered_text _ _ _ _ _ _ c.strip_cr-line.ensures (omega arith) utf8.1 (ap chars utf8.0) (answered_carried_out _ _ _ _ c.line_into.new.command (rw c.in-Ok-line_into.is at c.line_into.ensures) d))
    c.carry_out.ensures.ok

pub returns-in-Err-Syntax-clause-ok : goal.returns-in-Err-Syntax-clause-ok
returns-in-Err-Syntax-clause-ok c =
    let utf8 = c.in-Ok.ensures.cases in
    let read = c.in-Err-Syntax in
    let answered = answered_no_line _ _ _ (subst (λ r. IsAnswered (chars c.in-Ok.text.now) (put_in r c.line_into.new.command)) (read.is ∙ ap (λ (e : LineFault). Err e) read.field-0-is) c.line_into.ensures) refl in
    answered_text _ _ _ _ _ _ c.strip_cr-line.ensures (omega arith) utf8.1 (ap chars utf8.0) answered

pub returns-in-Err-Limit-clause-ok : goal.returns-in-Err-Limit-clause-ok
returns-in-Err-Limit-clause-ok c =
    let utf8 = c.in-Ok.ensures.cases in
    let read = c.in-Err-Limit in
    let answered = answered_too_large _ _ _ (subst (λ r. IsAnswered (chars c.in-Ok.text.now) (put_in r c.line_into.new.command)) (read.is ∙ ap (λ (e : LineFault). Err e) read.field-0-is) c.line_into.ensures) refl in
    answered_text _ _ _ _ _ _ c.strip_cr-line.ensures (omega arith) utf8.1 (ap chars utf8.0) answered
