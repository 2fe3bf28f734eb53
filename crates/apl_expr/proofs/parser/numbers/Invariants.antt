use Rattle.{std.proofs.Common.{◌≡◌, take, map}, apl_tokens.specs.Lexemes.{Number, lexemes}}
use Rattle.apl_expr.proofs.parser.numbers.Given as goal

abbrev pub invariant-loop-spanned : goal.invariant-loop-spanned
invariant-loop-spanned l = lexemes (take l.spanned-index l.tokens) ≡ map (λ z. Number z) l.numbers.items
