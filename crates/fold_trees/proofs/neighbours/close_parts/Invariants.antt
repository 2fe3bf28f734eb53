use Rattle.{std.proofs.Common.{◌≡◌, ℕ, ℤ, ◌-◌, ◌*◌, ◌^◌, ◌<◌, ◌≤◌, length, get_or}, fold_trees.specs.LineTrees.{node_of, ArePartsKeptUpTo}}
use Rattle.fold_trees.proofs.neighbours.close_parts.Given as goal

abbrev pub invariant-loop-half : goal.invariant-loop-half
invariant-loop-half g l = record {
  half : (low : ℕ) × (l.half ≡ 2 * 2 ^ low);
  within : l.half ≤ l.end;
  kept : (x : ℕ → ℤ) → ArePartsKeptUpTo g.P.Part.tells l.end l.width l.line.count x (node_of g.P.Part.blank l.line l.initial.nodes)
      → ArePartsKeptUpTo g.P.Part.tells l.end l.half l.line.count x (node_of g.P.Part.blank l.line l.nodes);
  others : (p : ℕ) → p < l.line.node → get_or l.nodes p g.P.Part.blank ≡ get_or l.initial.nodes p g.P.Part.blank;
  sized : length l.nodes ≡ length l.initial.nodes;
}

abbrev pub decreases-loop-half : goal.decreases-loop-half
decreases-loop-half g l = l.end - l.half
