use Rattle.std.proofs.Common.{◌∙◌, ◌<◌, Bool, ap, length, arith}
use Rattle.formula_core.{specs.Tables.{subtrees}, specs.Plans.{tree_cost}, proofs.Alike.{unchanged_tree_costs_nothing}, proofs.Planned.{planned_at_end, plan_of}, proofs.Progressed.{left_at, part_left, longer, cost_more, cost_within, counted_on, counted_all}}
use Rattle.formula_core.proofs.Tallied.{joined_all, joined_on, joins_more, joins_within, none_joined}
use Rattle.formula_core.proofs.formula.Formula.plan.Goals as goal

pub loop-plan-init : goal.loop-plan-init
loop-plan-init c = record {
  planned = c.in_ok-plan.ensures.planned;
  ticks = λ change told. omega arith;
  least = λ change told all. omega (arith, c.in_ok-plan.ensures.cost);
  joins = λ change told. omega arith;
  joined = λ change told all. none_joined c.args.self.now change c.in_ok-plan.plan.changes c.args.meter.now.joins c.in_ok-plan.ensures.none;
  rises = omega arith;
}

pub advance-requires-clause-left : goal.advance-requires-clause-left
advance-requires-clause-left c =
    let f = c.args.self.now in
    let planned = c.loop-plan.invariant.planned c.requires.0 c.requires.1 in
    left_at f c.loop-plan.plan.changes planned.next (part_left f c.loop-plan.plan.changes planned.begun.few (rw c.loop-plan-test.true at c.is_whole.ensures)) planned.begun.known

pub advance-requires-clause-planned : goal.advance-requires-clause-planned
advance-requires-clause-planned c = (c.requires.0, (c.requires.1, c.loop-plan.invariant.planned c.requires.0 c.requires.1))

pub loop-plan-smaller : goal.loop-plan-smaller
loop-plan-smaller c =
    let f = c.args.self.now in
    let planned = c.loop-plan.invariant.planned c.requires.0 c.requires.1 in
    let left = left_at f c.loop-plan.plan.changes planned.next (part_left f c.loop-plan.plan.changes planned.begun.few (rw c.loop-plan-test.true at c.is_whole.ensures)) planned.begun.known in
    omega (arith, left, c.in_ok-advance.ensures.one)

pub loop-plan-preserved : goal.loop-plan-preserved
loop-plan-preserved c =
    let f = c.args.self.now in
    let planned = c.loop-plan.invariant.planned c.requires.0 c.requires.1 in
    let under = part_left f c.loop-plan.plan.changes planned.begun.few (rw c.loop-plan-test.true at c.is_whole.ensures) in
    let below : length c.loop-plan.plan.changes < length (subtrees f.tree) = omega (arith, planned.begun.known, under) in
    let one = c.in_ok-advance.ensures.one in
    record {
      planned = λ change told. c.in_ok-advance.ensures.planned change told (c.loop-plan.invariant.planned change told);
      ticks = λ change told.
          cost_more f.is_new change f.tree (length c.loop-plan.plan.changes) (length c.advance.new.plan.changes) c.args.meter.now.ticks c.loop-plan.meter.ticks _ below (longer f c.loop-plan.plan.changes c.advance.new.plan.changes one)
          (c.loop-plan.invariant.ticks change told) (c.in_ok-advance.ensures.ticks change told (c.loop-plan.invariant.planned change told));
      least = λ change told all.
          let so_far = c.loop-plan.invariant.planned change told in
          counted_on c.args.meter.now.ticks c.loop-plan.meter.ticks _ c.loop-plan.plan.cost _ _ (c.loop-plan.invariant.least change told all)
          (c.in_ok-advance.ensures.exact change told so_far (all (length c.loop-plan.plan.changes) below)) (c.in_ok-advance.ensures.cost change told so_far);
      joins = λ change told.
          joins_more f.is_new change f.tree (length c.loop-plan.plan.changes) (length c.advance.new.plan.changes) c.args.meter.now.joins c.loop-plan.meter.joins _ below (longer f c.loop-plan.plan.changes c.advance.new.plan.changes one)
          (c.loop-plan.invariant.joins change told) (c.in_ok-advance.ensures.joins change told (c.loop-plan.invariant.planned change told));
      joined = λ change told all.
          let so_far = c.loop-plan.invariant.planned change told in
          joined_on f change c.loop-plan.plan.changes c.advance.new.plan.changes c.args.meter.now.joins c.loop-plan.meter.joins _ so_far.next under so_far.begun.known one (c.loop-plan.invariant.joined change told all)
          (c.in_ok-advance.ensures.joined change told so_far (all (length c.loop-plan.plan.changes) below));
      rises = omega (arith, c.loop-plan.invariant.rises, c.advance.ensures.rises);
    }

pub returns-in_err-advance-clause-ticks : goal.returns-in_err-advance-clause-ticks
returns-in_err-advance-clause-ticks c = λ change told.
    let f = c.args.self.now in
    omega (arith, ap (λ m. m.ticks) c.in_err-advance.ensures.err_meter, cost_within f.is_new change f.tree (length c.loop-plan.plan.changes) c.args.meter.now.ticks c.loop-plan.meter.ticks (c.loop-plan.invariant.ticks change told))

pub returns-clause-of : goal.returns-clause-of
returns-clause-of c =
    let planned = c.loop-plan.invariant.planned c.requires.0 c.requires.1 in
    plan_of c.args.self.now c.requires.0 c.loop-plan.plan planned.begun (rw c.loop-plan-test.false at c.is_whole.ensures)

pub returns-clause-planned : goal.returns-clause-planned
returns-clause-planned c = λ change told.
    let planned = c.loop-plan.invariant.planned change told in
    planned_at_end c.args.self.now change c.loop-plan.plan planned.begun (rw c.loop-plan-test.false at c.is_whole.ensures)

pub returns-clause-ticks : goal.returns-clause-ticks
returns-clause-ticks c = λ change told.
    let f = c.args.self.now in
    cost_within f.is_new change f.tree (length c.loop-plan.plan.changes) c.args.meter.now.ticks c.loop-plan.meter.ticks (c.loop-plan.invariant.ticks change told)

pub returns-clause-exact : goal.returns-clause-exact
returns-clause-exact c = λ change told all.
    let f = c.args.self.now in
    let planned = planned_at_end f change c.loop-plan.plan (c.loop-plan.invariant.planned change told).begun (rw c.loop-plan-test.false at c.is_whole.ensures) in
    let most = cost_within f.is_new change f.tree (length c.loop-plan.plan.changes) c.args.meter.now.ticks c.loop-plan.meter.ticks (c.loop-plan.invariant.ticks change told) in
    counted_all c.args.meter.now.ticks c.loop-plan.meter.ticks c.loop-plan.plan.cost (tree_cost f.is_new change f.tree) (c.loop-plan.invariant.least change told all) most (omega (arith, c.ticks-counted.ensures, c.ticks-counted.type_inv)) planned.cost

pub returns-in_err-advance-clause-joins : goal.returns-in_err-advance-clause-joins
returns-in_err-advance-clause-joins c = λ change told.
    let f = c.args.self.now in
    omega (arith, ap (λ m. m.joins) c.in_err-advance.ensures.err_meter, joins_within f.is_new change f.tree (length c.loop-plan.plan.changes) c.args.meter.now.joins c.loop-plan.meter.joins (c.loop-plan.invariant.joins change told))

pub returns-clause-joins : goal.returns-clause-joins
returns-clause-joins c = λ change told.
    let f = c.args.self.now in
    joins_within f.is_new change f.tree (length c.loop-plan.plan.changes) c.args.meter.now.joins c.loop-plan.meter.joins (c.loop-plan.invariant.joins change told)

pub returns-clause-joined : goal.returns-clause-joined
returns-clause-joined c = λ change told all.
    let f = c.args.self.now in
    let planned = c.loop-plan.invariant.planned change told in
    let whole = rw c.loop-plan-test.false at c.is_whole.ensures in
    joined_all f change c.loop-plan.plan.changes c.args.meter.now.joins c.loop-plan.meter.joins (whole ∙ planned.begun.known) (c.loop-plan.invariant.joined change told all)

pub returns-in_err-advance-clause-still : goal.returns-in_err-advance-clause-still
returns-in_err-advance-clause-still c = λ old change told same.
    let f = c.args.self.now in
    let most = cost_within f.is_new change f.tree (length c.loop-plan.plan.changes) c.args.meter.now.ticks c.loop-plan.meter.ticks (c.loop-plan.invariant.ticks change told) in
    let free = ap (λ (b : Bool). tree_cost b change f.tree) old ∙ unchanged_tree_costs_nothing f.tree change same in
    omega (arith, most, free, ap (λ m. m.ticks) c.in_err-advance.ensures.err_meter, c.loop-plan.invariant.rises)

pub returns-clause-still : goal.returns-clause-still
returns-clause-still c = λ old change told same.
    let f = c.args.self.now in
    let most = cost_within f.is_new change f.tree (length c.loop-plan.plan.changes) c.args.meter.now.ticks c.loop-plan.meter.ticks (c.loop-plan.invariant.ticks change told) in
    let free = ap (λ (b : Bool). tree_cost b change f.tree) old ∙ unchanged_tree_costs_nothing f.tree change same in
    omega (arith, most, free, c.loop-plan.invariant.rises)
