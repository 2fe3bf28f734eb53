use Rattle.std.{proofs.Common.{◌≡◌, ℕ, length, count_by, not}, specs.List.{Contains}}
use Rattle.dep_order.{specs.TopologicalOrder.{IsUnplaced, IsPlaced, Points}, proofs.Chains.{IsChainTo}}
use Rattle.dep_order.proofs.topological_order.cycle.Given as goal

abbrev pub invariant-loop-seen : goal.invariant-loop-seen
invariant-loop-seen l = record {
  size : length l.seen.items ≡ length l.graph;
  left : IsUnplaced l.placed l.node;
  seen : (a : ℕ) → IsPlaced l.seen.items a → Contains l.path.items a;
  leads : IsChainTo (Points l.graph) l.path.items l.node;
}

abbrev pub decreases-loop-seen : goal.decreases-loop-seen
decreases-loop-seen l = count_by not l.seen.items
