use Rattle.{apl_tokens.specs.Lexemes.{lexemes}, apl_expr.proofs.Changes.{erase_ok, erase_none}}
use Rattle.apl_expr.proofs.command.erase.Goals as goal

pub returns-in-Some : goal.returns-in-Some
returns-in-Some c = erase_ok (lexemes c.args.rest.now) c.in-Some.name c.in-Some.ensures

pub returns-in-None : goal.returns-in-None
returns-in-None c = erase_none (lexemes c.args.rest.now) c.in-None.ensures
