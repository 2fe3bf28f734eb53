use Rattle.{std.{proofs.Common.{refl}, proofs.lemmas.List.{length-map}}, apl_tokens.specs.Lexemes.{lexemes}, apl_expr.proofs.Changes.{define_ok, define_err}}
use Rattle.apl_expr.specs.declared.command.Change.TheVariants as changed
use Rattle.apl_expr.proofs.command.define_into.Goals as goal

pub returns-in-Ok : goal.returns-in-Ok
returns-in-Ok c =
    let front = c.args.front in
    (changed.Define front.name c.in-Ok.formula, refl, define_ok front.name (lexemes front.rest.now) (simp length-map c.requires) c.in-Ok.formula c.in-Ok.ensures)

pub returns-in-Err : goal.returns-in-Err
returns-in-Err c = define_err c.args.front.name (lexemes c.args.front.rest.now) (simp length-map c.requires) c.in-Err.fault c.in-Err.ensures
