use Rattle.{std.proofs.Common.{◌≡◌, ℕ, ◌+◌, ◌*◌, ◌<◌, ◌≤◌, get_or, vec_len, vec_capacity}, fold_trees.specs.LineTrees.{slot_of, node_of, ArePartsKeptIn}}
use Rattle.fold_trees.proofs.neighbours.push_fours.Given as goal

abbrev pub invariant-loop-four : goal.invariant-loop-four
invariant-loop-four g l = record {
  kept : ArePartsKeptIn g.P.Part.tells 0 (4 * l.four) l.line.count (slot_of l.line l.numbers) (node_of g.P.Part.blank l.line l.nodes.items);
  others : (p : ℕ) → p < l.line.node → get_or l.nodes.items p g.P.Part.blank ≡ get_or l.initial.nodes.items p g.P.Part.blank;
  sized : vec_len l.nodes ≡ l.line.node + 4 * l.four;
  room : vec_capacity l.initial.nodes ≤ vec_capacity l.nodes;
}
