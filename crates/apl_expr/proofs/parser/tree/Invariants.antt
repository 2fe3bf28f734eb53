use Rattle.{std.proofs.Common.{◌≡◌, Some, [], length}, apl_tokens.specs.Lexemes.{lexemes}}
use Rattle.apl_expr.{specs.Machine.{run, state, Nothing}, specs.Parsing.{stack, reading_of}}
use Rattle.apl_expr.proofs.parser.tree.Given as goal

abbrev pub invariant-loop-first : goal.invariant-loop-first
invariant-loop-first l = run 0 (lexemes l.rest) (Some (state (stack l.waiting.items) (reading_of l.reading))) ≡ run 0 (lexemes l.tokens) (Some (state [] Nothing))

abbrev pub decreases-loop-first : goal.decreases-loop-first
decreases-loop-first l = length l.rest
