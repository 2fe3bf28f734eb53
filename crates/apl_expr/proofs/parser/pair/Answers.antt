use Rattle.{std.proofs.Common.{sym, ap}, apl_tokens.specs.Lexemes.{lexeme}, apl_expr.{specs.Trees.{tree_of}, proofs.Pairs.{pair_tree}}}
use Rattle.apl_expr.proofs.parser.pair.Goals as goal

pub returns-clause-tree : goal.returns-clause-tree
returns-clause-tree c =
    let right = rw c.in-Some-2.is at c.in_ok-right.ensures in
    rw c.in_ok-dyad.ensures
    (pair_tree c.args.tokens.now _ _ _ _ c.in-Mark.sign c.in-Some-dyadic_of.function (tree_of c.in-Some-leaf.left.expr) (tree_of c.in-Some-2.right.expr)
    c.in-Some.ensures.cases.0 c.in-Some-split_first.ensures.cases.0 (ap lexeme c.in-Mark.is) (sym c.in-Some-dyadic_of.ensures) c.in-Some-leaf.ensures right)
