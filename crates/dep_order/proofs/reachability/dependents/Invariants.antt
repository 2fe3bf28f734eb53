use Rattle.std.{proofs.Common.{◌≡◌, ℕ, ◌<◌, length, count_by, not, slice_index, nat_eq}, specs.List.{Contains, IsDistinct}}
use Rattle.dep_order.{specs.TopologicalOrder.{IsPlaced, Points}, specs.Reachability.{Reaches}}
use Rattle.dep_order.proofs.reachability.dependents.Given as goal

abbrev pub invariant-loop-next : goal.invariant-loop-next
invariant-loop-next l = record {
  size : length l.marks.items ≡ length l.graph;
  placed : (a : ℕ) → IsPlaced l.marks.items a → Contains l.found.items a;
  listed : (i : ℕ) → i < length l.found.items → IsPlaced l.marks.items (slice_index l.found.items i);
  once : IsDistinct nat_eq l.found.items;
  reach : (a : ℕ) → IsPlaced l.marks.items a → Reaches (Points l.graph) a l.node;
}

abbrev pub decreases-loop-next : goal.decreases-loop-next
decreases-loop-next l = count_by not l.marks.items
