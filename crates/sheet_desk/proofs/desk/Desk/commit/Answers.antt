use Rattle.std.{proofs.Common.{◌≡◌, ℤ, length, false, List, map, Option, None, Some, Result, Err, inl, sym, subst, ap, ◌∙◌}, specs.Option.{option_map}, proofs.lemmas.Int.{to_z-of_z}, proofs.lemmas.Result.{err_from_is_err_and}}
use Rattle.sheet_recalc.{specs.Names.{SheetValue}, specs.Changes.{Accepts}, specs.Costs.{HasCost, HasTicks}, specs.History.{change_of}, specs.Pending.{IsPendingOn}, specs.declared.refusal.Refusal.{Refusal}}
use Rattle.sheet_desk.{specs.Slots.{slot_in, with_slot}, specs.Desk.{DeskValue, Commit, IsEvent, stale, commit_refusal}, specs.Asked.{done_answer}, specs.Held.{slot_value_of, slot_values_of, marked, IsOpenOn, AreOpenOn}, proofs.Slotted.{seen, seen_in_desk, put_in_desk}}
use Rattle.sheet_desk.{proofs.Staling.{all_in, length-with_slot, marked_seen, open_marked}, proofs.Spent.{spent_within}, specs.declared.slot.Slot.{Slot}}
use mir.Syntax.{w64}
use mir.Val.{to_z, of_z, SFits}
use Rattle.sheet_desk.proofs.desk.Desk.commit.Goals as goal

-- the number of the call
found : (slots : List (Option Slot)) (k : ℤ) (s : Slot) → SFits w64 k → slot_in slots (to_z w64 (of_z w64 k)) ≡ Some (Some s) → slot_in slots k ≡ Some (Some s)
found slots k s fits h = subst (λ (n : ℤ). slot_in slots n ≡ Some (Some s)) (to_z-of_z w64 k fits) h

emptied : (slots : List (Option Slot)) (k : ℤ) (after : List (Option Slot)) → SFits w64 k → after ≡ with_slot slots (to_z w64 (of_z w64 k)) None →
    after ≡ with_slot slots k None
emptied slots k after fits h = subst (λ (n : ℤ). after ≡ with_slot slots n None) (to_z-of_z w64 k fits) h

-- the change taken out is pending on the sheet
pending_on : (sheet : SheetValue) (slots : List (Option Slot)) (k : ℤ) (s : Slot) → AreOpenOn sheet slots → slot_in slots k ≡ Some (Some s) →
    s.is_stale ≡ false → IsPendingOn sheet (change_of s.change) s.pending
pending_on sheet slots k s all there fresh = all_in (IsOpenOn sheet) slots k (Some s) all.all there fresh

pub adopt-requires-clause-begun : goal.adopt-requires-clause-begun
adopt-requires-clause-begun c =
    let s = c.in_ok-slot.slot in (
      change_of s.change,
      pending_on c.self.inside.sheet c.self.inside.slots c.args.number s c.self.invariant (found c.self.inside.slots c.args.number s
          c.ranges.number c.in_ok-slot.ensures.ok) c.in_ok-slot.ensures.fresh,
    )

pub returns-in_err-slot : goal.returns-in_err-slot
returns-in_err-slot c =
    let p = err_from_is_err_and c.from_residual.result c.from_residual.ensures.1 in
    let number = to_z-of_z w64 c.args.number c.ranges.number in
    let next : DeskValue = seen c.self.inside.sheet c.take_ready.new.slots in
    let same : next ≡ c.args.self.now = ap (seen c.self.inside.sheet) c.in_err-slot.ensures.err ∙ c.self.view_is in
    let refused = subst (λ (d : DeskValue). commit_refusal (slot_in d.slots c.args.number) ≡ Some c.in_err-slot.field-0.0) c.self.view_is
    (subst (λ (k : ℤ). commit_refusal (slot_in (slot_values_of c.self.inside.slots) k) ≡ Some c.in_err-slot.field-0.0) number c.in_err-slot.ensures.refused) in
    subst (λ (r : Result (Unit {0}) Refusal). IsEvent c.args.self.now (Commit c.args.number) (done_answer r) next) (sym (p.1 ∙ ap (λ (e : Refusal). Err e) p.2))
    (inl refused, same)

pub returns : goal.returns
returns c =
    let there = found c.self.inside.slots c.args.number c.in_ok-slot.slot c.ranges.number c.in_ok-slot.ensures.ok in
    let out = emptied c.self.inside.slots c.args.number c.take_ready.new.slots c.ranges.number c.in_ok-slot.ensures.out in
    let s = c.in_ok-slot.slot in
    let change = change_of s.change in
    let begun = pending_on c.self.inside.sheet c.self.inside.slots c.args.number s c.self.invariant there c.in_ok-slot.ensures.fresh in
    let accepts = c.adopt.ensures.made change begun in
    let costs = c.adopt.ensures.cost change begun in
    record {
      slot = slot_value_of s;
      held = seen_in_desk c.self.inside.sheet c.self.inside.slots c.args.number c.args.self.now c.self.view_is (Some (Some s)) there;
      fresh = c.in_ok-slot.ensures.fresh;
      ready = c.in_ok-slot.ensures.left;
      made = record {
        accepts = subst (λ (d : DeskValue). Accepts d.names change c.adopt.new.self.names) c.self.view_is accepts;
        cost = subst (λ (d : DeskValue). HasCost d.names change c.adopt.new.self.names c.adopt.new.self.cost) c.self.view_is costs;
        computed = subst (λ (d : DeskValue). HasTicks d.names change c.adopt.new.self.names c.adopt.new.self.ticks) c.self.view_is (c.adopt.ensures.computed change begun);
        slots =
            ap slot_values_of (c.mark_stale.ensures ∙ ap (map (option_map marked)) out)
            ∙ marked_seen _
            ∙ ap (λ (d : DeskValue). map (option_map stale) d.slots) (put_in_desk c.self.inside.sheet c.self.inside.slots c.args.number c.args.self.now
            c.self.view_is None);
      };
      ticks = c.adopt.ensures.ticks;
      few = spent_within c.self.inside.sheet change s.pending c.adopt.new.self.names c.adopt.new.self.cost begun c.in_ok-slot.ensures.left accepts costs;
    }

pub invariant_of-self : goal.invariant_of-self
invariant_of-self c = subst (AreOpenOn c.self.inside.sheet) (sym c.in_err-slot.ensures.err) c.self.invariant

pub invariant_of-self-2 : goal.invariant_of-self-2
invariant_of-self-2 c =
    open_marked c.adopt.new.self c.take_ready.new.slots c.mark_stale.new.slots
    (ap length (emptied c.self.inside.slots c.args.number c.take_ready.new.slots c.ranges.number c.in_ok-slot.ensures.out)
    ∙ length-with_slot c.self.inside.slots c.args.number None ∙ c.self.invariant.count) c.mark_stale.ensures
