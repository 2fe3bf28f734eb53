use Rattle.{std.proofs.Common.{◌≡◌, Some, drop}, apl_tokens.specs.Lexemes.{lexemes}, apl_expr.specs.Edits.{edit_of, edits}}
use Rattle.apl_expr.proofs.edit.read_on.Given as goal

abbrev pub invariant-loop-spanned : goal.invariant-loop-spanned
invariant-loop-spanned l = edits (lexemes (drop l.spanned-index l.tokens)) (Some (edit_of l.edit)) ≡ edits (lexemes l.tokens) (Some (edit_of l.fn.before))
