use Rattle.{std.proofs.Common.{◌∙◌, ap, length, arith}, change_core.specs.Meters.{ticked, MeterValue}}
use Rattle.formula_core.{specs.Plans.{PlanValue}, specs.Tables.{subtrees, tree_at}, proofs.Progressed.{node_left, more_of, one_more, planned_more, counted_whole}, proofs.Tallied.{joined_whole}}
use Rattle.formula_core.proofs.formula.Formula.advance.Goals as goal

pub push_next-requires-clause-below : goal.push_next-requires-clause-below
push_next-requires-clause-below c =
    let f = c.args.self.now in
    omega (arith, node_left f c.args.plan.now.changes c.requires.left c.requires.planned.1.1.begun.known, ap (λ (p : PlanValue). length p.changes) c.plan.view_is)

pub returns-clause-one : goal.returns-clause-one
returns-clause-one c =
    let f = c.args.self.now in
    let w = c.requires.planned in
    let more = more_of f w.0 c.args.inputs.now _ _ _ c.args.plan.now.cost _ _ _ (ap (λ (p : PlanValue). p.changes) c.plan.view_is) c.in_ok-items.ensures.more w.1.0 w.1.1.begun in
    one_more f w.0 c.args.plan.now c.push_next.new.changes.items c.in_ok-items.items _ _ c.requires.left w.1.1 more

pub returns-clause-planned : goal.returns-clause-planned
returns-clause-planned c = λ change told planned.
    let f = c.args.self.now in
    let more = more_of f change c.args.inputs.now _ _ _ c.args.plan.now.cost _ _ _ (ap (λ (p : PlanValue). p.changes) c.plan.view_is) c.in_ok-items.ensures.more told planned.begun in
    planned_more f change c.args.plan.now c.push_next.new.changes.items c.in_ok-items.items _ _ c.requires.left planned more c.add.new.self (c.add.ensures.exact ∙ ap (λ (p : PlanValue). ticked p.cost c.in_ok-items.items) c.plan.view_is)

pub returns-clause-ticks : goal.returns-clause-ticks
returns-clause-ticks c = λ change told planned.
    let f = c.args.self.now in
    let more = more_of f change c.args.inputs.now _ _ _ c.args.plan.now.cost _ _ _ (ap (λ (p : PlanValue). p.changes) c.plan.view_is) c.in_ok-items.ensures.more told planned.begun in
    omega (arith, more.step.ticks, ap (λ (m : MeterValue). m.ticks) c.include.ensures.exact, ap (λ (m : MeterValue). m.ticks) c.new-counted.ensures)

pub returns-clause-exact : goal.returns-clause-exact
returns-clause-exact c = λ change told planned computed.
    let f = c.args.self.now in
    let more = more_of f change c.args.inputs.now _ _ _ c.args.plan.now.cost _ _ _ (ap (λ (p : PlanValue). p.changes) c.plan.view_is) c.in_ok-items.ensures.more told planned.begun in
    counted_whole f.is_new change (tree_at (subtrees f.tree) (length c.args.plan.now.changes)) more.change.delta c.args.meter.now.ticks c.in_ok-items.items c.new-counted.result.ticks c.push_next.new.meter.ticks _
    more.step.done.is computed more.step.cost more.step.ticks more.step.least (ap (λ (m : MeterValue). m.ticks) c.new-counted.ensures) (ap (λ (m : MeterValue). m.ticks) c.include.ensures.exact)

pub returns-clause-cost : goal.returns-clause-cost
returns-clause-cost c = λ change told planned.
    let f = c.args.self.now in
    let more = more_of f change c.args.inputs.now _ _ _ c.args.plan.now.cost _ _ _ (ap (λ (p : PlanValue). p.changes) c.plan.view_is) c.in_ok-items.ensures.more told planned.begun in
    c.add.ensures.exact ∙ (ap (λ (p : PlanValue). ticked p.cost c.in_ok-items.items) c.plan.view_is ∙ ap (ticked c.args.plan.now.cost) more.step.cost)

pub returns-clause-joins : goal.returns-clause-joins
returns-clause-joins c = λ change told planned.
    let f = c.args.self.now in
    let more = more_of f change c.args.inputs.now _ _ _ c.args.plan.now.cost _ _ _ (ap (λ (p : PlanValue). p.changes) c.plan.view_is) c.in_ok-items.ensures.more told planned.begun in
    omega (arith, more.step.joins, ap (λ (m : MeterValue). m.joins) c.include.ensures.exact, ap (λ (m : MeterValue). m.joins) c.new-counted.ensures)

pub returns-clause-joined : goal.returns-clause-joined
returns-clause-joined c = λ change told planned computed.
    let f = c.args.self.now in
    let more = more_of f change c.args.inputs.now _ _ _ c.args.plan.now.cost _ _ _ (ap (λ (p : PlanValue). p.changes) c.plan.view_is) c.in_ok-items.ensures.more told planned.begun in
    joined_whole f.is_new change (tree_at (subtrees f.tree) (length c.args.plan.now.changes)) more.change.delta c.args.meter.now.joins c.new-counted.result.joins c.push_next.new.meter.joins _
    more.step.done.is computed more.step.joined (ap (λ (m : MeterValue). m.joins) c.new-counted.ensures) (ap (λ (m : MeterValue). m.joins) c.include.ensures.exact)
