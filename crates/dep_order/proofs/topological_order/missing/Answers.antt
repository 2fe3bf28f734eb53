use Rattle.std.{proofs.Common.{◌<◌, true, false, length, get_or, subst, arith, sym, ◌∙◌}, specs.List.{Contains}, proofs.lemmas.List.{get_or_default}, proofs.lemmas.List.Elements.{Contains-get_or}}
use Rattle.dep_order.{specs.TopologicalOrder.{Points, IsPlaced}, proofs.Marks.{of_each}}
use Rattle.dep_order.proofs.topological_order.missing.Goals as goal

pub bounds-placed-next : goal.bounds-placed-next
bounds-placed-next c =
    let xs = c.references-next-items.result.now in
    let k = c.loop-next.next-index in
    let m : Points c.args.graph.now c.args.node (get_or xs k 0) = subst (λ ys. Contains ys (get_or xs k 0)) c.references-next-items.ensures (Contains-get_or xs k 0 (omega arith)) in
    omega (arith, c.len-in_range.ensures.in_range c.args.node (get_or xs k 0) m)

pub returns-then-not-placed-next-clause-left : goal.returns-then-not-placed-next-clause-left
returns-then-not-placed-next-clause-left c =
    let xs = c.references-next-items.result.now in
    let k = c.loop-next.next-index in
    let m : Points c.args.graph.now c.args.node (get_or xs k 0) = subst (λ ys. Contains ys (get_or xs k 0)) c.references-next-items.ensures (Contains-get_or xs k 0 (omega arith)) in
    let b : get_or xs k 0 < length c.args.placed.now = omega (arith, c.len-in_range.ensures.in_range c.args.node (get_or xs k 0) m) in
    (b, get_or_default c.args.placed.now (get_or xs k 0) true false b ∙ c.if-not-placed-next.true)

pub returns-clause-none : goal.returns-clause-none
returns-clause-none c = λ b p.
    of_each (IsPlaced c.args.placed.now) c.references-next-items.result.now (λ k h. c.loop-next.invariant.placed k (omega arith)) b
    (subst (λ ys. Contains ys b) (sym c.references-next-items.ensures) p)
