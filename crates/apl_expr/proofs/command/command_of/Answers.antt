use Rattle.std.{proofs.Common.{Ok, Err, subst, sym, refl, ap, length, arith}, proofs.lemmas.List.{length-map, nil_from_length}, proofs.lemmas.Grind.{common_steps}}
use Rattle.apl_tokens.specs.Lexemes.{lexemes}
use Rattle.apl_expr.{specs.declared.command.Command.{Command}, specs.declared.fault.ParseFault.{ParseFault}, specs.Lines.{IsCommand, IsLine, nothing, Nothing}, specs.Changes.{IsChangeOf}, proofs.Commands.{change_ok, change_too_large}, proofs.Fronts.{command_word_is}}
use Rattle.apl_expr.proofs.command.command_of.Goals as goal

pub returns-then-is_empty : goal.returns-then-is_empty
returns-then-is_empty c =
    (simp length-map (omega arith), subst (λ ts. IsLine (lexemes ts) Nothing) (sym (nil_from_length _ (grind (arith, common_steps)))) nothing, λ x. x, refl)

pub returns-in-Ok : goal.returns-in-Ok
returns-in-Ok c =
    let ts = lexemes c.args.tokens.now in
    subst (λ (k : Command). IsCommand ts (Ok k)) (sym c.in-Ok.ensures.1) (change_ok ts (simp length-map (omega arith)) c.in-Ok.ensures.0 c.in-Ok.ensures.2)

pub returns-in-Err-Limit : goal.returns-in-Err-Limit
returns-in-Err-Limit c =
    let large = subst (λ (f : ParseFault). IsChangeOf (lexemes c.args.tokens.now) (Err f)) c.in-Err-Limit.field-0-is c.in-Err-Limit.ensures in
    change_too_large (lexemes c.args.tokens.now) (simp length-map (omega arith)) large

pub worded_into-requires : goal.worded_into-requires
worded_into-requires c = let lengths = ap length (command_word_is (lexemes c.args.tokens.now) _ _ c.in-Some.ensures) in let sizes = simp length-map at lengths in omega arith
