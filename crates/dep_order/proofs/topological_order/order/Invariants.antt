use Rattle.std.{proofs.Common.{◌≡◌, ℕ, ◌<◌, length, take, count_by, not, slice_index, nat_eq}, specs.List.{Contains, IsDistinct}}
use Rattle.dep_order.specs.TopologicalOrder.{IsPlaced, Points}
use Rattle.dep_order.proofs.topological_order.order.Given as goal

abbrev pub invariant-loop-first : goal.invariant-loop-first
invariant-loop-first l = record {
  size : length l.placed.items ≡ length l.graph;
  placed : (a : ℕ) → IsPlaced l.placed.items a → Contains l.order.items a;
  ordered : (i : ℕ) → i < length l.order.items → IsPlaced l.placed.items (slice_index l.order.items i);
  once : IsDistinct nat_eq l.order.items;
  after : (i b : ℕ) → i < length l.order.items → Points l.graph (slice_index l.order.items i) b → Contains (take i l.order.items) b;
}

abbrev pub decreases-loop-first : goal.decreases-loop-first
decreases-loop-first l = count_by not l.placed.items
