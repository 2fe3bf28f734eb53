use Rattle.std.{proofs.Common.{◌<◌, ◌≤◌, inl, inr, arith}, proofs.lemmas.List.{length-map}, proofs.lemmas.Result.{err_from_is_err_and}}
use Rattle.apl_tokens.specs.Lexemes.{lexemes}
use Rattle.apl_expr.{specs.Limits.{most_height, most_nodes}, specs.Trees.{tree_of, height, nodes}, proofs.Sizes.{above_limit}, proofs.FewTokens.{few_tokens}, proofs.Parsed.{refused, too_large, read_tree}}
use Rattle.apl_expr.proofs.parser.parse_any.Goals as goal

pub returns-in_err-plain : goal.returns-in_err-plain
returns-in_err-plain c =
    let p = err_from_is_err_and c.from_residual.result c.from_residual.ensures.1 in
    refused c.in_err-plain.field-0.0 (lexemes c.args.tokens.now) c.from_residual.result (simp length-map (omega arith)) p.0 p.1 p.2 c.in_err-plain.ensures

pub returns-then-tokens : goal.returns-then-tokens
returns-then-tokens c =
    let is = read_tree (lexemes c.args.tokens.now) (tree_of c.in_ok-plain.plain.expr) c.in_ok-plain.ensures in
    let sizes = few_tokens (lexemes c.args.tokens.now) (tree_of c.in_ok-plain.plain.expr) is (simp length-map (omega arith)) in
    (simp length-map (omega arith), is, sizes.0, sizes.1, c.in_ok-plain.plain.plain)

pub returns-then-not-is_within_height : goal.returns-then-not-is_within_height
returns-then-not-is_within_height c =
    let above = above_limit (height (tree_of c.in_ok-plain.plain.expr)) _ c.is_within_height.result c.is_within_height.ensures c.if-not-is_within_height.true in
    let high : most_height < height (tree_of c.in_ok-plain.plain.expr) = omega arith in
    too_large (lexemes c.args.tokens.now) (tree_of c.in_ok-plain.plain.expr) c.in_ok-plain.ensures (inl high)

pub returns-then-not-is_within_nodes : goal.returns-then-not-is_within_nodes
returns-then-not-is_within_nodes c =
    let above = above_limit (nodes (tree_of c.in_ok-plain.plain.expr)) _ c.is_within_nodes.result c.is_within_nodes.ensures c.if-not-is_within_nodes.true in
    let many : most_nodes < nodes (tree_of c.in_ok-plain.plain.expr) = omega arith in
    too_large (lexemes c.args.tokens.now) (tree_of c.in_ok-plain.plain.expr) c.in_ok-plain.ensures (inr many)

pub returns : goal.returns
returns c =
    let low : height (tree_of c.in_ok-plain.plain.expr) ≤ most_height = omega arith in
    let few : nodes (tree_of c.in_ok-plain.plain.expr) ≤ most_nodes = omega arith in
    (simp length-map (omega arith), read_tree (lexemes c.args.tokens.now) (tree_of c.in_ok-plain.plain.expr) c.in_ok-plain.ensures, low, few, c.in_ok-plain.plain.plain)
