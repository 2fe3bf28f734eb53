use Rattle.{std.proofs.Common.{◌∙◌, rules, arith}, fold_trees.{proofs.LongerTrees.{in_block}, proofs.TreeTaken.{IsTaken, taken_on}}}
use Rattle.fold_trees.proofs.part_trees.take_places.Goals as goal

pub take_last-requires-clause-inside : goal.take_last-requires-clause-inside
take_last-requires-clause-inside g c =
    rw c.nth_line.ensures (in_block c.args.count c.args.step _ _ c.loop-line.line (omega (arith, c.requires.more)) c.requires.apart c.requires.slot_count
    (c.loop-line.invariant.node_count ∙ c.requires.node_count) c.loop-line-test.true (search rules))

pub loop-line-preserved : goal.loop-line-preserved
loop-line-preserved g c =
    let told = c.take_last.ensures in
    let new : IsTaken g.P.Part.blank g.P.Part.tells c.nth_line.result c.args.numbers.now c.loop-line.nodes c.take_last.new.nodes = record { kept = told.kept; other_nodes = told.other_nodes; node_count = told.node_count } in
    taken_on _ _ c.args.count c.args.step _ c.args.nodes.now _ c.loop-line.line c.loop-line.invariant _ c.requires.apart (rw c.nth_line.ensures at new)
