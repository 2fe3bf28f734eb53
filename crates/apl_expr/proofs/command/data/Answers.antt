use Rattle.std.{proofs.Common.{◌∷◌}, proofs.lemmas.List.{length-map}, proofs.lemmas.Result.{err_from_is_err_and}}
use Rattle.apl_tokens.specs.Lexemes.{lexemes, Named, Sign}
use Rattle.apl_expr.{specs.Lines.{data_word}, specs.Changes.{IsChangeOf}, proofs.Changes.{data_none, data_ok, data_err, exits}}
use Rattle.apl_expr.proofs.command.data.Goals as goal

pub returns-in_default : goal.returns-in_default
returns-in_default c = data_none (lexemes c.args.rest.now) (simp length-map c.requires) c.in_default.ensures

pub returns-in_err-value : goal.returns-in_err-value
returns-in_err-value c =
    let p = err_from_is_err_and c.from_residual.result c.from_residual.ensures.1 in
    exits (IsChangeOf (Sign 0x29 ∷ Named data_word ∷ lexemes c.args.rest.now)) c.from_residual.result c.in_err-value.field-0.0 p.0 p.1 p.2
    (data_err (lexemes c.args.rest.now) (simp length-map c.requires) _ _ c.in-Some.ensures c.in_err-value.field-0.0 c.in_err-value.ensures)

pub returns : goal.returns
returns c = data_ok (lexemes c.args.rest.now) (simp length-map c.requires) _ _ c.in-Some.ensures c.in_ok-value.value c.in_ok-value.ensures
