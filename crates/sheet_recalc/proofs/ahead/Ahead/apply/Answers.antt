use Rattle.{std.proofs.Common.{◌≡◌, ◌-◌, Some, ap, sym, subst, arith}, change_core.specs.Meters.{MeterValue}, formula_core.specs.Plans.{PlanValue}}
use Rattle.sheet_recalc.{specs.ProposedSheet.{outline_of, proposed_change}, specs.Planning.{IsNext, IsPaid}, proofs.Forward.{next_planned, next_left, applied_way, one_applied, paid_none, paid_one, paid_more}}
use Rattle.sheet_recalc.proofs.ahead.Ahead.apply.Goals as goal

pub loop-plan-init : goal.loop-plan-init
loop-plan-init c = record {
  way = λ base left w next.
      let o = outline_of c.args.self.now.proposed.now in
      (left, subst (λ q. IsNext o base left w c.args.formula.now q c.args.meter.now.ticks) c.in-Some.is (c.in_ok-start.ensures.way base left c.args.meter.now.ticks w next), paid_none o c.args.budget.now left c.args.meter.now.ticks);
}

pub advance-requires-clause-left : goal.advance-requires-clause-left
advance-requires-clause-left c =
    let h = c.requires.next in
    let k = c.loop-plan.invariant.way h.0 h.1 h.2 h.3 in
    next_left (outline_of c.args.self.now.proposed.now) c.requires.ahead.proposed h.0 k.0 c.loop-plan.meter.ticks h.2 c.args.formula.now c.loop-plan.plan k.1 (rw c.loop-plan-test.true at c.is_whole.ensures)

pub advance-requires-clause-planned : goal.advance-requires-clause-planned
advance-requires-clause-planned c =
    let o = outline_of c.args.self.now.proposed.now in
    let h = c.requires.next in
    let k = c.loop-plan.invariant.way h.0 h.1 h.2 h.3 in
    (proposed_change o, (c.requires.told, next_planned o c.requires.ahead.proposed h.0 k.0 c.loop-plan.meter.ticks h.2 c.args.formula.now c.loop-plan.plan k.1))

pub loop-plan-smaller : goal.loop-plan-smaller
loop-plan-smaller c =
    let h = c.requires.next in
    let k = c.loop-plan.invariant.way h.0 h.1 h.2 h.3 in
    let left = next_left (outline_of c.args.self.now.proposed.now) c.requires.ahead.proposed h.0 k.0 c.loop-plan.meter.ticks h.2 c.args.formula.now c.loop-plan.plan k.1 (rw c.loop-plan-test.true at c.is_whole.ensures) in
    omega (arith, left, c.in_ok-advance.ensures.one)

pub loop-plan-preserved : goal.loop-plan-preserved
loop-plan-preserved c = record {
  way = λ base left w next.
      let o = outline_of c.args.self.now.proposed.now in
      let ready = c.requires.ahead.proposed in
      let f = c.args.formula.now in
      let p = c.loop-plan.plan in
      let q = c.advance.new.plan in
      let part = rw c.loop-plan-test.true at c.is_whole.ensures in
      let k = c.loop-plan.invariant.way base left w next in
      let made = c.in_ok-advance.ensures in
      let told = c.requires.told in
      let planned = next_planned o ready base k.0 c.loop-plan.meter.ticks w f p k.1 in
      let change = proposed_change o in
      let more = made.ticks change told planned in
      let after = c.advance.new.meter.ticks in
      let one = one_applied o ready base k.0 c.loop-plan.meter.ticks w f p k.1 part q after made.one more made.rises in (
        k.0 - 1,
        applied_way o ready base k.0 c.loop-plan.meter.ticks w f p k.1 part q after made.one more (made.planned change told planned) (made.exact change told planned) (made.cost change told planned),
        paid_more o c.args.budget.now c.loop-plan.budget c.pay.new.self left k.0 (k.0 - 1) c.args.meter.now.ticks c.loop-plan.meter.ticks after k.2
            (subst (λ b. IsPaid o c.loop-plan.budget b k.0 (k.0 - 1) c.loop-plan.meter.ticks after) (sym c.pay.ensures) (paid_one o c.loop-plan.budget k.0 (k.0 - 1) c.loop-plan.meter.ticks after (rw c.if-is_spent.false at c.is_spent.ensures) one)),
      );
}

pub returns-in_err-advance-clause-way : goal.returns-in_err-advance-clause-way
returns-in_err-advance-clause-way c = λ base left w next.
    let o = outline_of c.args.self.now.proposed.now in
    let k = c.loop-plan.invariant.way base left w next in
    let same = c.in_err-advance.ensures in
    let ticks : c.loop-plan.meter.ticks ≡ c.advance.new.meter.ticks = ap (λ (m : MeterValue). m.ticks) (sym same.err_meter) in (
      k.0,
      subst (λ n. IsNext o base k.0 w c.args.formula.now (Some c.advance.new.plan) n) ticks (subst (λ (p : PlanValue). IsNext o base k.0 w c.args.formula.now (Some p) c.loop-plan.meter.ticks) (sym same.err) k.1),
      subst (λ n. IsPaid o c.args.budget.now c.loop-plan.budget left k.0 c.args.meter.now.ticks n) ticks k.2,
    )
