use Rattle.std.proofs.Common.{◌≡◌, ◌≢◌, ℕ, ◌-◌, ◌<◌, ◌≤◌, length, get_or}
use Rattle.fold_trees.{specs.LineTrees.{slot_of, nth_node, numbers_of_block, node_of}, proofs.LineParts.{IsClimb}, proofs.LineNodes.{AreKeptTo}}
use Rattle.fold_trees.proofs.line_tree.renew.Given as goal

abbrev pub invariant-loop-width : goal.invariant-loop-width
invariant-loop-width g l = record {
  climb : IsClimb l.place l.block l.width;
  told : g.P.Part.tells l.kept (numbers_of_block l.line.count (slot_of l.line l.numbers) l.block l.width);
  kept : AreKeptTo g.P.Part.tells l.width l.place l.line.count (slot_of l.line l.numbers) (node_of g.P.Part.blank l.line l.nodes);
  others : (p : ℕ) → ((meeting : ℕ) → 1 ≤ meeting → meeting < l.line.count → p ≢ nth_node l.line meeting)
      → get_or l.nodes p g.P.Part.blank ≡ get_or l.initial.nodes p g.P.Part.blank;
  sized : length l.nodes ≡ length l.initial.nodes;
}

abbrev pub decreases-loop-width : goal.decreases-loop-width
decreases-loop-width g l = l.line.count - l.width
