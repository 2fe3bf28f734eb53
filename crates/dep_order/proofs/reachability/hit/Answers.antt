use Rattle.std.{proofs.Common.{get_or, subst, arith, sym}, specs.List.{Contains}, proofs.lemmas.List.Elements.{Contains-get_or}}
use Rattle.dep_order.{specs.TopologicalOrder.{Points, IsHit}, proofs.Marks.{of_each}}
use Rattle.dep_order.proofs.reachability.hit.Goals as goal

pub bounds-marks-next : goal.bounds-marks-next
bounds-marks-next c =
    let xs = c.references-next-items.result.now in
    let k = c.loop-next.next-index in
    let m : Points c.args.graph.now c.args.from (get_or xs k 0) = subst (λ ys. Contains ys (get_or xs k 0)) c.references-next-items.ensures (Contains-get_or xs k 0 c.loop-next-test.true) in
    omega (arith, c.len-in_range.ensures.in_range c.args.from (get_or xs k 0) m)

pub returns-clause-none : goal.returns-clause-none
returns-clause-none c = λ b p.
    of_each (λ x. IsHit c.args.marks.now c.args.node x → ⊥) c.references-next-items.result.now (λ k h. c.loop-next.invariant k (omega arith)) b
    (subst (λ ys. Contains ys b) (sym c.references-next-items.ensures) p)
