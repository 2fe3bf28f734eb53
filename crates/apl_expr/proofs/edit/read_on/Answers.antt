use Rattle.std.{proofs.Common.{Some, Result, Err, sym, ap, ◌∙◌, subst, arith}, specs.Prelude.{ℤ}, proofs.lemmas.Result.{err_from_is_err_and}}
use Rattle.smallvec.specs.SmallVec.{SmallVec}
use Rattle.apl_expr.{specs.declared.expr.Literal.{Literal}, specs.declared.fault.ParseFault.{ParseFault}, specs.Edits.{edit_of, edits, EditGives}, proofs.Editing.{kept, failed, finished}}
use Rattle.apl_tokens.specs.Lexemes.{lexemes}
use Rattle.apl_expr.proofs.edit.read_on.Goals as goal

pub returns-in_err-edit : goal.returns-in_err-edit
returns-in_err-edit c =
    let p = err_from_is_err_and c.from_residual.result c.from_residual.ensures.1 in
    let given = failed c.in_err-edit.field-0.0 c.args.tokens.now c.loop-spanned.spanned-index c.spanned-item.result (edit_of c.loop-spanned.edit) _ (omega arith) c.spanned-item.is c.loop-spanned.invariant c.in_err-edit.ensures in
    subst (λ (r : Result (SmallVec ℤ × Literal) ParseFault). EditGives r (edits (lexemes c.args.tokens.now) (Some (edit_of c.args.before)))) (sym (p.1 ∙ ap (λ (e : ParseFault). Err e) p.2)) given

pub loop-spanned-preserved : goal.loop-spanned-preserved
loop-spanned-preserved c = kept c.args.tokens.now c.loop-spanned.spanned-index c.spanned-item.result (edit_of c.loop-spanned.edit) _ _ (omega arith) c.spanned-item.is c.loop-spanned.invariant c.in_ok-edit.ensures

pub returns : goal.returns
returns c = finished c.edit_end.result c.args.tokens.now c.loop-spanned.spanned-index (edit_of c.loop-spanned.edit) _ c.loop-spanned-test.false c.loop-spanned.invariant c.edit_end.ensures
