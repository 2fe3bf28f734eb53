use Rattle.{std.proofs.Common.{ℕ, ◌<◌, slice_index}, dep_order.specs.TopologicalOrder.{IsHit}}
use Rattle.dep_order.proofs.reachability.hit.Given as goal

abbrev pub invariant-loop-next : goal.invariant-loop-next
invariant-loop-next l = (k : ℕ) → k < l.next-index → IsHit l.marks l.node (slice_index l.next-items k) → ⊥
