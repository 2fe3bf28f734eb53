use Rattle.std.proofs.Common.{◌≡◌, ℕ, ◌+◌, ◌/◌, ◌<◌, ◌≤◌, ◌⊎◌, ◌++◌, List, ℤ, length, get_or}
use Rattle.fold_trees.{specs.LineBlocks.{line_of}, specs.LineTrees.{nth_node, node_of}}
use Rattle.fold_trees.proofs.line_block.halves_row.Given as goal

abbrev pub invariant-loop-column : goal.invariant-loop-column
invariant-loop-column g l = record {
  told : (column : ℕ) → column < l.column → (earlier rest : List ℤ)
      → g.P.Part.tells (node_of g.P.Part.blank (line_of l.fn.first column) l.initial.nodes (l.from + l.half / 2)) earlier
      → g.P.Part.tells (node_of g.P.Part.blank (line_of l.fn.first column) l.initial.nodes (l.from + l.half + l.half / 2)) rest
      → g.P.Part.tells (node_of g.P.Part.blank (line_of l.fn.first column) l.nodes (l.from + l.half)) (earlier ++ rest);
  others : (p : ℕ) → (p < nth_node l.fn.first (l.from + l.half) ⊎ nth_node l.fn.first (l.from + l.half) + l.column ≤ p)
      → get_or l.nodes p g.P.Part.blank ≡ get_or l.initial.nodes p g.P.Part.blank;
  sized : length l.nodes ≡ length l.initial.nodes;
}
