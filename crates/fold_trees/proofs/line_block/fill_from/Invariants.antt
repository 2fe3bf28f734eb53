use Rattle.{std.proofs.Common.{◌≡◌, ℕ, ◌-◌, ◌*◌, ◌^◌, ◌<◌, ◌≤◌, ◌⊎◌, length, get_or}, fold_trees.specs.LineBlocks.{nodes_end, ArePartsKeptBehind}}
use Rattle.fold_trees.proofs.line_block.fill_from.Given as goal

abbrev pub invariant-loop-half : goal.invariant-loop-half
invariant-loop-half g l = record {
  half : (level : ℕ) × (l.half ≡ 2 ^ level);
  wide : 2 ≤ l.half;
  whole : (place : ℕ) × (l.from ≡ place * l.half);
  kept : ArePartsKeptBehind g.P.Part.blank g.P.Part.tells l.from l.half l.first l.numbers l.nodes;
  others : (p : ℕ) → (p < l.first.node ⊎ nodes_end l.first ≤ p) → get_or l.nodes p g.P.Part.blank ≡ get_or l.initial.nodes p g.P.Part.blank;
  sized : length l.nodes ≡ length l.initial.nodes;
}

abbrev pub decreases-loop-half : goal.decreases-loop-half
decreases-loop-half g l = l.first.count - l.half
