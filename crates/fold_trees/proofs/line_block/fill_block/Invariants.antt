use Rattle.{std.proofs.Common.{◌≡◌, ℕ, ◌+◌, ◌*◌, ◌<◌, ◌≤◌, ◌⊎◌, length, get_or}, fold_trees.specs.LineBlocks.{nodes_end, ArePartsKeptFrom}}
use Rattle.fold_trees.proofs.line_block.fill_block.Given as goal

abbrev pub invariant-loop-fours : goal.invariant-loop-fours
invariant-loop-fours g l = record {
  few : 4 * l.fours < l.first.count + 4;
  kept : ArePartsKeptFrom g.P.Part.blank g.P.Part.tells (4 * l.fours) l.first l.numbers l.nodes;
  others : (p : ℕ) → (p < l.first.node ⊎ nodes_end l.first ≤ p) → get_or l.nodes p g.P.Part.blank ≡ get_or l.initial.nodes p g.P.Part.blank;
  sized : length l.nodes ≡ length l.initial.nodes;
}

abbrev pub decreases-loop-fours : goal.decreases-loop-fours
decreases-loop-fours g l = l.fours
