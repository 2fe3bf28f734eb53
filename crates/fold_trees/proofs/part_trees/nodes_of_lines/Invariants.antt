use Rattle.std.proofs.Common.{◌≡◌, ℕ, ◌*◌, ◌<◌, ◌≤◌, vec_len, vec_capacity}
use Rattle.fold_trees.{specs.LineTrees.{slot_of, node_of, ArePartsKept, nodes_in_line}, specs.LineBlocks.{line_at}}
use Rattle.fold_trees.proofs.part_trees.nodes_of_lines.Given as goal

abbrev pub invariant-loop-line : goal.invariant-loop-line
invariant-loop-line g l = record {
  kept : (line : ℕ) → line < l.line → ArePartsKept g.P.Part.tells l.count (slot_of (line_at l.count 1 line) l.numbers) (node_of g.P.Part.blank (line_at l.count 1 line) l.nodes.items);
  sized : vec_len l.nodes ≡ l.line * nodes_in_line l.count;
  room : vec_capacity l.initial.nodes ≤ vec_capacity l.nodes;
}
