use Rattle.{std.proofs.Common.{ℕ, ◌<◌}, dep_order.specs.TopologicalOrder.{IsHit, IsPlaced, Points}}
use Rattle.dep_order.proofs.reachability.next_dependent.Given as goal

abbrev pub invariant-loop-next : goal.invariant-loop-next
invariant-loop-next l = (a : ℕ) → a < l.next → (b : ℕ) → Points l.graph a b → IsHit l.marks l.node b → IsPlaced l.marks a
