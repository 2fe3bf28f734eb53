use Rattle.{std.proofs.Common.{◌≡◌, ℕ, ◌<◌, slice_index, slice_index_or, []}, dep_order.specs.TopologicalOrder.{IsPlaced}}
use Rattle.dep_order.proofs.topological_order.missing.Given as goal

abbrev pub invariant-loop-next : goal.invariant-loop-next
invariant-loop-next l = record {
  items : l.next-items ≡ slice_index_or l.graph l.node [];
  placed : (k : ℕ) → k < l.next-index → IsPlaced l.placed (slice_index l.next-items k);
}
