use Rattle.std.proofs.Common.{◌≡◌, ℕ, ◌+◌, ◌-◌, ◌*◌, ◌<◌, ◌≤◌, ◌⊎◌, min, length, get_or}
use Rattle.fold_trees.{specs.LineTrees.{slot_of, nth_node, segment, node_of}, specs.LineBlocks.{line_of}}
use Rattle.fold_trees.proofs.line_block.last_row.Given as goal

abbrev pub invariant-loop-column : goal.invariant-loop-column
invariant-loop-column g l = record {
  told : (column : ℕ) → column < l.column
      → g.P.Part.tells (node_of g.P.Part.blank (line_of l.fn.first column) l.nodes (l.from + l.half))
      (segment (slot_of (line_of l.fn.first column) l.numbers) l.from (min (2 * l.half) (l.fn.first.count - l.from)));
  others : (p : ℕ) → (p < nth_node l.fn.first (l.from + l.half) ⊎ nth_node l.fn.first (l.from + l.half) + l.column ≤ p)
      → get_or l.nodes p g.P.Part.blank ≡ get_or l.initial.nodes p g.P.Part.blank;
  sized : length l.nodes ≡ length l.initial.nodes;
}
