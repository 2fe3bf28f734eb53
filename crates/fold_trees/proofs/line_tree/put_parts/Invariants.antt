use Rattle.std.proofs.Common.{◌≡◌, ◌≢◌, ℕ, ℤ, ◌-◌, ◌^◌, ◌<◌, ◌≤◌, length, get_or}
use Rattle.fold_trees.{specs.LineTrees.{nth_node, node_of, ArePartsKeptBeside, AreJoined, block_up}, proofs.LineParts.{IsClimb}, proofs.LineNodes.{AreKeptTo}}
use Rattle.fold_trees.proofs.line_tree.put_parts.Given as goal

abbrev pub invariant-loop-width : goal.invariant-loop-width
invariant-loop-width g l = record {
  climb : IsClimb l.place l.block l.width;
  wide : l.width ≡ 2 ^ l.level;
  up : l.block ≡ block_up l.place l.level;
  kept : (x : ℕ → ℤ) → ArePartsKeptBeside g.P.Part.tells l.place l.line.count x (node_of g.P.Part.blank l.line l.initial.nodes)
      → AreJoined g.P.Part.tells l.line.count x l.place l.parts
      → AreKeptTo g.P.Part.tells l.width l.place l.line.count x (node_of g.P.Part.blank l.line l.nodes);
  others : (p : ℕ) → ((meeting : ℕ) → 1 ≤ meeting → meeting < l.line.count → p ≢ nth_node l.line meeting)
      → get_or l.nodes p g.P.Part.blank ≡ get_or l.initial.nodes p g.P.Part.blank;
  sized : length l.nodes ≡ length l.initial.nodes;
}

abbrev pub decreases-loop-width : goal.decreases-loop-width
decreases-loop-width g l = l.line.count - l.width
