use Rattle.{apl_tokens.specs.Lexemes.{lexemes}, apl_expr.{specs.Trees.{literal_of}, proofs.CellEdits.{no_positions}}}
use Rattle.apl_expr.proofs.edit.whole_literal.Goals as goal

pub returns : goal.returns
returns c = (no_positions (lexemes c.args.tokens.now) c.in_ok-found.field-0-0.items (literal_of c.in_ok-found.found) (let read = c.in_ok-found.ensures.0 in cc), c.in_ok-found.ensures.1)
