use Rattle.std.{proofs.Common.{◌∷◌}, proofs.lemmas.List.{length-map}, proofs.lemmas.Result.{err_from_is_err_and}}
use Rattle.{apl_tokens.specs.Lexemes.{lexemes, Named, Sign}, apl_expr.{specs.Changes.{IsChangeOf}, proofs.Changes.{define_ok, define_err, exits}}}
use Rattle.apl_expr.proofs.command.define.Goals as goal

pub returns-in_err-formula : goal.returns-in_err-formula
returns-in_err-formula c =
    let p = err_from_is_err_and c.from_residual.result c.from_residual.ensures.1 in
    exits (IsChangeOf (Named c.args.name ∷ Sign 0x2190 ∷ lexemes c.args.rest.now)) c.from_residual.result c.in_err-formula.field-0.0 p.0 p.1 p.2
    (define_err c.args.name (lexemes c.args.rest.now) (simp length-map c.requires) c.in_err-formula.field-0.0 c.in_err-formula.ensures)

pub returns : goal.returns
returns c = define_ok c.args.name (lexemes c.args.rest.now) (simp length-map c.requires) c.in_ok-formula.formula c.in_ok-formula.ensures
