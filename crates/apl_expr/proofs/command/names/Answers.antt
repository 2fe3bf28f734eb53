use Rattle.std.{proofs.Common.{length, ap, arith}, proofs.lemmas.List.{length-map, nil_from_length}, proofs.lemmas.Grind.{common_steps}}
use Rattle.{apl_tokens.specs.Lexemes.{lexemes}, apl_expr.{proofs.Editing.{not_none}, proofs.Commands.{names_ok, names_none}}}
use Rattle.apl_expr.proofs.command.names.Goals as goal

pub returns-then-is_empty : goal.returns-then-is_empty
returns-then-is_empty c = names_ok (lexemes c.args.rest.now) (simp length-map c.requires) (ap lexemes (nil_from_length c.args.rest.now (grind (arith, common_steps))))

pub returns-else-is_empty : goal.returns-else-is_empty
returns-else-is_empty c = names_none (lexemes c.args.rest.now) (simp length-map c.requires) (λ none. not_none _ _ c.is_empty.ensures c.if-is_empty.false (simp length-map at (ap length none)))
