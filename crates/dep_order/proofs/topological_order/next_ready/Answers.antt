use Rattle.std.{proofs.Common.{◌≡◌, ◌∙◌, ℕ, List, Bool, true, ap, Option, Some, None}, specs.Prelude.{IfSome, is_some, not}}
use Rattle.dep_order.{specs.TopologicalOrder.{IsUnplaced, Points}, proofs.Marks.{apart}, proofs.topological_order.next_ready.Goals.{else-not-placed-node-via-then-not-placed-node+else-is_none, else-not-placed-node-via-else-not-placed-node}}
use Rattle.dep_order.proofs.topological_order.next_ready.Goals as goal
use borrow.Author.Count.{below_more}

one_missing : (graph : List (List ℕ)) (placed : List Bool) (node : ℕ) (found : Option ℕ) → is_some found ≡ true → IfSome found (IsUnplaced placed) → IfSome found (Points graph node)
    → (b : ℕ) × Points graph node b × IsUnplaced placed b
one_missing graph placed node None some left points = absurd cc
one_missing graph placed node (Some b) some left points = (b, points, left)

pub loop-node-preserved : goal.loop-node-preserved
loop-node-preserved c = below_more (λ a. IsUnplaced c.args.placed.now a → (b : ℕ) × Points c.args.graph.now a b × IsUnplaced c.args.placed.now b) c.loop-node.node c.loop-node.invariant
    (elim c.else-not-placed-node.branch [
      | else-not-placed-node-via-then-not-placed-node+else-is_none w ↦ λ _. one_missing c.args.graph.now c.args.placed.now c.loop-node.node w.missing.result (w.is_none.ensures ∙ ap not w.if-is_none.false) w.missing.ensures.left w.missing.ensures.points
      | else-not-placed-node-via-else-not-placed-node w ↦ λ left. absurd (apart c.args.placed.now c.loop-node.node w.if-not-placed-node.false left)
    ])
