use Rattle.{std.{proofs.Common.{◌∷◌}, proofs.lemmas.Result.{err_from_is_err_and}}, apl_tokens.specs.Lexemes.{lexemes, Named, Sign}}
use Rattle.apl_expr.{specs.Lines.{row_word}, specs.Changes.{IsChangeOf}, proofs.Changes.{row_none, row_ok, row_err, exits}}
use Rattle.apl_expr.proofs.command.row.Goals as goal

pub returns-in_default : goal.returns-in_default
returns-in_default c = row_none (lexemes c.args.rest.now) c.in_default.ensures

pub returns-in_err-items : goal.returns-in_err-items
returns-in_err-items c =
    let p = err_from_is_err_and c.from_residual.result c.from_residual.ensures.1 in
    exits (IsChangeOf (Sign 0x29 ∷ Named row_word ∷ lexemes c.args.rest.now)) c.from_residual.result c.in_err-items.field-0.0 p.0 p.1 p.2
    (row_err (lexemes c.args.rest.now) _ _ c.in-Some.ensures c.in_err-items.field-0.0 c.in_err-items.ensures)

pub returns : goal.returns
returns c = row_ok (lexemes c.args.rest.now) _ _ c.in-Some.ensures c.in_ok-items.items c.in_ok-items.ensures
