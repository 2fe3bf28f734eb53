use Rattle.std.{proofs.Common.{Ok, Err, inr, subst}, specs.Str.{chars}}
use Rattle.apl_expr.{specs.declared.fault.ParseFault.TheVariants.{Syntax, Limit}, specs.declared.fault.ParseFault.{ParseFault}, specs.Lines.{IsCommand}, proofs.Lined.{tokens_answer}}
use Rattle.apl_tokens.specs.Lexemes.{lexemes}
use Rattle.apl_expr.proofs.command.line_of_tokens.Goals as goal

pub returns-in-Ok-command_of : goal.returns-in-Ok-command_of
returns-in-Ok-command_of c = tokens_answer (chars c.args.text.now) c.tokens_into.new.found.items c.deref.result.now (Ok c.command_of.new.command) c.in-Ok.ensures c.deref.ensures.value c.in-Ok-command_of.ensures

pub returns-in-Err-Syntax-command_of : goal.returns-in-Err-Syntax-command_of
returns-in-Err-Syntax-command_of c = inr (tokens_answer (chars c.args.text.now) c.tokens_into.new.found.items c.deref.result.now (Err Syntax) c.in-Ok.ensures c.deref.ensures.value (subst (λ (f : ParseFault). IsCommand (lexemes c.deref.result.now) (Err f)) c.in-Err-Syntax-command_of.field-0-is c.in-Err-Syntax-command_of.ensures))

pub returns-in-Err-Limit-command_of : goal.returns-in-Err-Limit-command_of
returns-in-Err-Limit-command_of c = inr (tokens_answer (chars c.args.text.now) c.tokens_into.new.found.items c.deref.result.now (Err Limit) c.in-Ok.ensures c.deref.ensures.value (subst (λ (f : ParseFault). IsCommand (lexemes c.deref.result.now) (Err f)) c.in-Err-Limit-command_of.field-0-is c.in-Err-Limit-command_of.ensures))
