use Rattle.{std.{proofs.Common.{length, ap, arith}, proofs.lemmas.List.{length-map}}, apl_tokens.specs.Lexemes.{lexemes}}
use Rattle.apl_expr.proofs.Fronts.{command_word_is}
use Rattle.apl_expr.proofs.command.change_of.Goals as goal

pub worded_change-requires : goal.worded_change-requires
worded_change-requires c = let lengths = ap length (command_word_is (lexemes c.args.tokens.now) _ _ c.in-Some-command_word.ensures) in let sizes = simp length-map at lengths in omega arith
