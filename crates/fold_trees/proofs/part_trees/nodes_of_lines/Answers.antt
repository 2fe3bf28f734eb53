use Rattle.std.proofs.Common.{◌∙◌, ap, arith}
use Rattle.fold_trees.{specs.LineTrees.{nodes_in_line}, proofs.BlockLines.{line_node_first, line_nodes_end, line_kept}, specs.LineBlocks.{nodes_end}}
use Rattle.fold_trees.proofs.part_trees.nodes_of_lines.Goals as goal

pub loop-line-preserved : goal.loop-line-preserved
loop-line-preserved g c =
    let count = c.args.count in
    let line = c.loop-line.line in
    let told = c.push_line.ensures in
    let is = c.nth_line.ensures in
    let others = rw is at told.others in
    record {
      kept = line_kept g.P.Part.blank g.P.Part.tells count c.args.numbers.now c.loop-line.nodes.items c.push_line.new.nodes.items line (rw is at told.kept)
          (λ p below. others p (omega (arith, below, line_node_first (nodes_in_line count) line))) c.loop-line.invariant.kept;
      sized = told.length ∙ ap nodes_end is ∙ line_nodes_end count line;
      room = omega (arith, c.loop-line.invariant.room, told.room);
    }
