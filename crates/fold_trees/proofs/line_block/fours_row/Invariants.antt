use Rattle.std.proofs.Common.{◌≡◌, ℕ, ◌+◌, ◌<◌, ◌≤◌, ◌⊎◌, length, get_or}
use Rattle.fold_trees.{specs.LineTrees.{slot_of, nth_node, node_of, AreFourKept}, specs.LineBlocks.{line_of}}
use Rattle.fold_trees.proofs.line_block.fours_row.Given as goal

abbrev pub invariant-loop-column : goal.invariant-loop-column
invariant-loop-column g l = record {
  told : (column : ℕ) → column < l.column → AreFourKept g.P.Part.tells (slot_of (line_of l.fn.first column) l.numbers) (node_of g.P.Part.blank (line_of l.fn.first column) l.nodes) l.from;
  others : (p : ℕ) → (p < nth_node l.fn.first (l.from + 1) ⊎ nth_node l.fn.first (l.from + 3) + l.fn.first.step ≤ p) → get_or l.nodes p g.P.Part.blank ≡ get_or l.initial.nodes p g.P.Part.blank;
  sized : length l.nodes ≡ length l.initial.nodes;
}
