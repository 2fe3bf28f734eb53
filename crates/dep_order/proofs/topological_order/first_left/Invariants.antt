use Rattle.{std.proofs.Common.{ℕ, ◌<◌}, dep_order.specs.TopologicalOrder.{IsPlaced}}
use Rattle.dep_order.proofs.topological_order.first_left.Given as goal

abbrev pub invariant-loop-node : goal.invariant-loop-node
invariant-loop-node l = (a : ℕ) → a < l.node → IsPlaced l.placed a
