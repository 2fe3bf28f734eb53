use Rattle.{std.proofs.Common.{ℕ, ◌<◌}, dep_order.specs.TopologicalOrder.{IsUnplaced, Points}}
use Rattle.dep_order.proofs.topological_order.next_ready.Given as goal

abbrev pub invariant-loop-node : goal.invariant-loop-node
invariant-loop-node l = (a : ℕ) → a < l.node → IsUnplaced l.placed a → (b : ℕ) × Points l.graph a b × IsUnplaced l.placed b
