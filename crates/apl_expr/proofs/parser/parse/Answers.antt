use Rattle.{std.{proofs.Common.{arith}, proofs.lemmas.List.{length-map}}, apl_tokens.specs.Lexemes.{lexemes}}
use Rattle.apl_expr.{specs.Trees.{tree_of}, proofs.FewTokens.{few_tokens}}
use Rattle.apl_expr.proofs.parser.parse.Goals as goal

pub returns-in-Ok-Some : goal.returns-in-Ok-Some
returns-in-Ok-Some c =
    let short = rw c.in-Ok-Some.field-0-is at c.in-Ok-Some.ensures.short in
    let tree = rw c.in-Ok-Some.field-0-is at c.in-Ok-Some.ensures.tree in
    let sizes = few_tokens (lexemes c.args.tokens.now) (tree_of c.in-Ok-Some.plain.expr) tree (simp length-map (omega (arith, short))) in
    (simp length-map (omega (arith, short)), tree, sizes.0, sizes.1, c.in-Ok-Some.plain.plain)
