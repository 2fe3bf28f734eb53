use Rattle.{std.{proofs.Common.{rules, w64, SFits}, proofs.lemmas.Int.{to_z-of_z}, proofs.lemmas.List.{length-map}}, apl_tokens.specs.Lexemes.{lexemes}}
use Rattle.apl_expr.proofs.Commands.{step_ok, step_none}
use Rattle.apl_expr.proofs.command.step.Goals as goal

pub returns-in-Some : goal.returns-in-Some
returns-in-Some c =
    let fits : SFits w64 c.in-Some.slot = search rules in
    rw (to_z-of_z w64 c.in-Some.slot fits) (step_ok (lexemes c.args.rest.now) (simp length-map c.requires) c.in-Some.slot c.in-Some.ensures)

pub returns-in-None : goal.returns-in-None
returns-in-None c = step_none (lexemes c.args.rest.now) (simp length-map c.requires) c.in-None.ensures
