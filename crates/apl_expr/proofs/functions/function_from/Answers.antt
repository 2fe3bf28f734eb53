use Rattle.{std.proofs.Common.{◌∙◌, ◌≤◌, length, ap, subst, sym}, apl_tokens.specs.Lexemes.{Sign, lexeme, lexemes}}
use Rattle.apl_expr.{specs.declared.functions.Function.{Function}, specs.Functions.{function_from}, proofs.FunctionsRead.{more_short}}
use Rattle.apl_expr.proofs.functions.function_from.Goals as goal

pub returns-in-Mark-clause-is : goal.returns-in-Mark-clause-is
returns-in-Mark-clause-is c = c.function_at.ensures ∙ sym (ap (λ t. function_from (lexeme t) (lexemes c.args.tokens.now)) c.in-Mark.is)

pub returns-in-Mark-clause-short : goal.returns-in-Mark-clause-short
returns-in-Mark-clause-short c = subst (λ (f : Function). f.more ≤ length c.args.tokens.now) (sym c.function_at.ensures) (more_short (Sign c.in-Mark.sign) c.args.tokens.now)
