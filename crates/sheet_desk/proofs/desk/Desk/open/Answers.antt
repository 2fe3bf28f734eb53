use Rattle.std.{proofs.Common.{◌≤◌, ℕ, false, Option, None, Some, Result, Err, inl, inr, refl, sym, subst, ap, ◌∙◌}, proofs.lemmas.Result.{err_from_is_err_and}}
use Rattle.sheet_recalc.{specs.Changes.{Accepts, Refuses}, specs.Costs.{expression_cost}, specs.History.{change_of}, specs.Pending.{steps_left}, specs.declared.refusal.Refusal.{Refusal}}
use Rattle.sheet_desk.{specs.Desk.{DeskValue, Open, IsEvent, open_refusal}, specs.declared.slot.Slot.{Slot}, specs.Asked.{count_answer}, proofs.Slotted.{IsPlaced, none_seen, held_seen, put_seen, is_there, is_not_there}, proofs.Staling.{open_put}, proofs.desk.Desk.open.Goals.{In-Some}}
use Rattle.sheet_desk.proofs.desk.Desk.open.Goals as goal

-- the place of the number
placed : (c : In-Some) → IsPlaced c.self.inside.sheet c.self.inside.slots c.args.number c.args.self.now c.in-Some.place
placed c = record { fits = c.ranges.number; view = c.self.view_is; found = c.in-Some.ensures }

pub returns-in_default : goal.returns-in_default
returns-in_default c = (inl (ap open_refusal (none_seen c.self.inside.sheet c.self.inside.slots c.args.number c.args.self.now c.ranges.number c.self.view_is c.in_default.ensures)), refl)

pub returns-then-is_some : goal.returns-then-is_some
returns-then-is_some c =
    let some = is_there _ (sym c.is_some.ensures ∙ c.if-is_some.true) in
    (inl (ap open_refusal (held_seen (placed (goal.at.returns-then-is_some c).In-Some) c.index-self-place.result (Some some.0) some.1)), refl)

pub returns-in_err-pending : goal.returns-in_err-pending
returns-in_err-pending c =
    let none = is_not_there _ (sym c.is_some.ensures ∙ c.if-is_some.false) in
    let held = held_seen (placed (goal.at.returns-in_err-pending c).In-Some) c.index-self-place.result None none in
    let p = err_from_is_err_and c.from_residual.result c.from_residual.ensures.1 in
    let change = change_of c.args.change in
    let refused = subst (λ (d : DeskValue). Refuses d.names change c.in_err-pending.field-0.0) c.self.view_is c.in_err-pending.ensures.refused in
    subst (λ (r : Result ℕ Refusal). IsEvent c.args.self.now (Open c.args.number change) (count_answer r) c.args.self.now)
    (sym (p.1 ∙ ap (λ (e : Refusal). Err e) p.2)) (inr (ap open_refusal held, refused), refl)

pub returns : goal.returns
returns c =
    let at = placed (goal.at.returns c).In-Some in
    let none = is_not_there _ (sym c.is_some.ensures ∙ c.if-is_some.false) in
    let change = change_of c.args.change in
    let steps = c.in_ok-pending.ensures.steps in
    record {
      empty = held_seen at c.index-self-place.result None none;
      new = steps.0;
      accepts = subst (λ (d : DeskValue). Accepts d.names change steps.0) c.self.view_is steps.1;
      left = steps_left c.in_ok-pending.pending;
      counted = steps.2;
      told_is = c.left-left.ensures;
      ticks = c.in_ok-pending.pending.ticks;
      few = subst (λ (d : DeskValue). c.in_ok-pending.pending.ticks ≤ expression_cost d.names change) c.self.view_is c.in_ok-pending.ensures.ticks;
      next_is = put_seen at (Some (record { change = c.args.change; pending = c.in_ok-pending.pending; is_stale = false }));
    }

pub invariant_of-self : goal.invariant_of-self
invariant_of-self c =
    let held : Option Slot = Some (record { change = c.args.change; pending = c.in_ok-pending.pending; is_stale = false }) in
    open_put c.self.inside.sheet c.self.inside.slots c.in-Some.place held c.self.invariant (λ fresh. c.in_ok-pending.ensures.ok)
