use Rattle.std.proofs.Common.{◌<◌, ◌^◌, length, rules, sym, subst, arith}
use Rattle.fold_trees.{proofs.LineSpots.{line_fits, in_both}, specs.declared.line.Line.{Line}, specs.LineTrees.{IsIn}}
use Rattle.fold_trees.proofs.part_trees.nth_tree.Goals as goal

pub nth_line-line-requires-clause-fit : goal.nth_line-line-requires-clause-fit
nth_line-line-requires-clause-fit g c =
    let long = length c.args.numbers.now in
    let small : long < 2 ^ 62 = search rules in
    omega (arith, line_fits c.args.count c.args.step long c.requires.trees.lines c.args.line c.requires.line, small)

pub returns-clause-inside : goal.returns-clause-inside
returns-clause-inside g c =
    let long = length c.args.numbers.now in
    let nodes = length c.args.nodes.now in
    subst (λ (l : Line). IsIn l long nodes) (sym c.nth_line-line.ensures)
    (in_both c.args.count c.args.step long c.requires.trees.lines c.args.line c.requires.line nodes c.requires.trees.sized (search rules))
