use Rattle.std.{proofs.Common.{◌≡◌, map, Result, Err, inr, refl, sym, subst, ap, ◌∙◌}, specs.Option.{option_map}, proofs.lemmas.Result.{err_from_is_err_and}}
use Rattle.sheet_recalc.{specs.Names.{SheetValue}, specs.Changes.{Accepts, Refuses}, specs.Costs.{HasCost, HasTicks}, specs.History.{change_of}, specs.declared.refusal.Refusal.{Refusal}}
use Rattle.sheet_desk.{specs.Desk.{DeskValue, Plain, IsEvent, stale}, specs.Asked.{done_answer}, specs.Held.{slot_values_of, AreOpenOn}, proofs.Slotted.{seen}, proofs.Staling.{marked_seen, open_marked}}
use Rattle.sheet_desk.proofs.desk.Desk.plain_lent.Goals as goal

pub returns-in_err-apply_lent : goal.returns-in_err-apply_lent
returns-in_err-apply_lent c =
    let p = err_from_is_err_and c.from_residual.result c.from_residual.ensures.1 in
    let next : DeskValue = seen c.apply_lent.new.self c.self.inside.slots in
    let same : next ≡ c.args.self.now = ap (λ (s : SheetValue). seen s c.self.inside.slots) c.in_err-apply_lent.ensures.err ∙ c.self.view_is in
    let refused = subst (λ (d : DeskValue). Refuses d.names (change_of c.args.change.now) c.in_err-apply_lent.field-0.0) c.self.view_is c.in_err-apply_lent.ensures.refused in
    subst (λ (r : Result (Unit {0}) Refusal). IsEvent c.args.self.now (Plain (change_of c.args.change.now)) (done_answer r) next) (sym (p.1
    ∙ ap (λ (e : Refusal). Err e) p.2))
    (inr (refl, refused), same)

pub returns : goal.returns
returns c =
    let change = change_of c.args.change.now in
    record {
      accepts = subst (λ (d : DeskValue). Accepts d.names change c.apply_lent.new.self.names) c.self.view_is c.in_ok-apply_lent.ensures.ok;
      cost = subst (λ (d : DeskValue). HasCost d.names change c.apply_lent.new.self.names c.apply_lent.new.self.cost) c.self.view_is c.in_ok-apply_lent.ensures.cost;
      computed = subst (λ (d : DeskValue). HasTicks d.names change c.apply_lent.new.self.names c.apply_lent.new.self.ticks) c.self.view_is c.in_ok-apply_lent.ensures.ticks;
      slots = ap slot_values_of c.mark_stale.ensures ∙ marked_seen c.self.inside.slots ∙ ap (λ (d : DeskValue). map (option_map stale) d.slots) c.self.view_is;
    }

pub invariant_of-self : goal.invariant_of-self
invariant_of-self c = subst (λ (s : SheetValue). AreOpenOn s c.self.inside.slots) (sym c.in_err-apply_lent.ensures.err) c.self.invariant

pub invariant_of-self-2 : goal.invariant_of-self-2
invariant_of-self-2 c = open_marked c.apply_lent.new.self c.self.inside.slots c.mark_stale.new.slots c.self.invariant.count c.mark_stale.ensures
