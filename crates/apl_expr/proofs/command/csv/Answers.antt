use Rattle.{std.proofs.lemmas.List.{length-map}, apl_tokens.specs.Lexemes.{lexemes}, apl_expr.proofs.Commands.{csv_ok, csv_none}}
use Rattle.apl_expr.proofs.command.csv.Goals as goal

pub returns-in-Some : goal.returns-in-Some
returns-in-Some c = csv_ok (lexemes c.args.rest.now) (simp length-map c.requires) c.in-Some.name c.in-Some.ensures

pub returns-in-None : goal.returns-in-None
returns-in-None c = csv_none (lexemes c.args.rest.now) (simp length-map c.requires) c.in-None.ensures
