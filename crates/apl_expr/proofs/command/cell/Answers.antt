use Rattle.{std.{proofs.Common.{◌∷◌}, proofs.lemmas.Result.{err_from_is_err_and}}, apl_tokens.specs.Lexemes.{lexemes, Named, Sign}}
use Rattle.apl_expr.{specs.Changes.{IsChangeOf}, proofs.Changes.{cell_ok, cell_err, exits}}
use Rattle.apl_expr.proofs.command.cell.Goals as goal

pub returns-in_err-positions : goal.returns-in_err-positions
returns-in_err-positions c =
    let p = err_from_is_err_and c.from_residual.result c.from_residual.ensures.1 in
    exits (IsChangeOf (Named c.args.name ∷ Sign 0x5b ∷ lexemes c.args.rest.now)) c.from_residual.result c.in_err-positions.field-0.0 p.0 p.1 p.2
    (cell_err c.args.name (lexemes c.args.rest.now) c.in_err-positions.field-0.0 c.in_err-positions.ensures)

pub returns : goal.returns
returns c = cell_ok c.args.name (lexemes c.args.rest.now) c.in_ok-positions.positions c.in_ok-positions.literal c.in_ok-positions.ensures
