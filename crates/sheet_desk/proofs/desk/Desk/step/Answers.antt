use Rattle.std.{proofs.Common.{set, ◌≡◌, ◌<◌, ◌-◌, ℕ, Bool, None, Some, Result, Err, inl, inr, refl, sym, subst, ap, ◌∙◌, if◌then◌else◌, arith}, specs.Option.{option_map}, proofs.lemmas.List.Elements.{All-get_or}, proofs.lemmas.Result.{err_from_is_err_and}}
use Rattle.sheet_recalc.{specs.Costs.{IsStepCost}, specs.History.{change_of}, specs.Pending.{steps_left}, specs.declared.refusal.Refusal.{Refusal}, specs.declared.refusal.Refusal.TheVariants.{Stale}}
use Rattle.sheet_desk.{specs.Desk.{DeskValue, SlotValue, Step, IsEvent, held_in, with_held, step_refusal, steps_told}, specs.Held.{slot_value_of, IsOpenOn}, specs.declared.slot.Slot.{Slot}, specs.Asked.{count_answer}, proofs.Slotted.{IsPlaced, seen, none_seen, held_seen, put_seen, put_same, slot_after}}
use Rattle.sheet_desk.{proofs.Staling.{open_put}, proofs.desk.Desk.step.Goals.{In-Some, Else-slot}}
use Rattle.sheet_desk.proofs.desk.Desk.step.Goals as goal

-- the place of the number
placed : (c : In-Some) → IsPlaced c.self.inside.sheet c.self.inside.slots c.args.number c.args.self.now c.in-Some.place
placed c = record { fits = c.ranges.number; view = c.self.view_is; found = c.in-Some.ensures }

-- the pending change at that place
placed_fresh : (c : Else-slot) → IsPlaced c.self.inside.sheet c.self.inside.slots c.args.number c.args.self.now c.in-Some.place
placed_fresh c = record { fits = c.ranges.number; view = c.self.view_is; found = c.in-Some.ensures }

-- the contents of the slot
found : (c : Else-slot) → held_in c.args.self.now c.args.number ≡ Some (Some (slot_value_of c.in-Some-slots.slot))
found c = held_seen (placed_fresh c) c.index-self-place.result (Some c.in-Some-slots.slot) c.in-Some-slots.is

-- the contents of the slot afterwards, if their model is the same
unchanged : (c : Else-slot) (now : Slot) → slot_value_of now ≡ slot_value_of c.in-Some-slots.slot →
    seen c.self.inside.sheet (set c.self.inside.slots c.in-Some.place (Some now)) ≡ c.args.self.now
unchanged c now same =
    put_same (placed_fresh c) c.index-self-place.result (Some c.in-Some-slots.slot) (Some now) c.in-Some-slots.is (ap (λ (s : SlotValue). Some s) same)

-- the change is pending on the sheet
pending_on : (c : Else-slot) → IsOpenOn c.self.inside.sheet (Some c.in-Some-slots.slot)
pending_on c =
    subst (IsOpenOn c.self.inside.sheet) c.in-Some-slots.is
    (All-get_or (IsOpenOn c.self.inside.sheet) c.self.inside.slots c.in-Some.place c.index-self-place.result c.in-Some.ensures.0 c.self.invariant.all)

pub returns-in_default : goal.returns-in_default
returns-in_default c = (inl (ap step_refusal (none_seen c.self.inside.sheet c.self.inside.slots c.args.number c.args.self.now c.ranges.number c.self.view_is c.in_default.ensures)), refl)

pub returns-in_default-slots : goal.returns-in_default-slots
returns-in_default-slots c =
    let at = placed (goal.at.returns-in_default-slots c).In-Some in
    let is = c.in_default-slots.is in
    (inl (ap step_refusal (held_seen at c.index-self-place.result None is)), put_same at c.index-self-place.result None _ is (ap (option_map slot_value_of) is))

pub returns-then-slot : goal.returns-then-slot
returns-then-slot c =
    let at = placed (goal.at.returns-then-slot c).In-Some in
    let slot = Some c.in-Some-slots.slot in
    let held = held_seen at c.index-self-place.result slot c.in-Some-slots.is in (
      inl (ap step_refusal held ∙ ap (λ (b : Bool). if b then Some Stale else None) c.if-slot.true),
      put_same at c.index-self-place.result slot slot c.in-Some-slots.is refl,
    )

pub returns-then-left-eq0 : goal.returns-then-left-eq0
returns-then-left-eq0 c =
    let at = (goal.at.returns-then-left-eq0 c).Else-slot in
    let none : steps_left c.in-Some-slots.slot.pending ≡ 0 = omega (arith, c.left.ensures, c.if-left-eq0.true) in
    record {
      slot = slot_value_of c.in-Some-slots.slot;
      held = found at;
      fresh = c.if-slot.false;
      told_is = ap (λ (n : ℕ). steps_told (n - 1)) (sym none);
      none = λ h. unchanged at c.in-Some-slots.slot refl;
      one = λ more. absurd (omega (arith, more, none));
    }

pub returns-in_err-advance : goal.returns-in_err-advance
returns-in_err-advance c =
    let at = (goal.at.returns-in_err-advance c).Else-slot in
    let some : 0 < steps_left c.in-Some-slots.slot.pending = omega (arith, c.left.ensures, c.if-left-eq0.false) in
    let p = err_from_is_err_and c.from_residual.result c.from_residual.ensures.1 in
    let s = c.in-Some-slots.slot in
    let after : Slot = record { change = s.change; pending = c.advance.new.pending; is_stale = s.is_stale } in
    let same : slot_value_of after ≡ slot_value_of s =
    slot_after s c.advance.new.pending (steps_left s.pending) s.pending.ticks c.if-slot.false c.in_err-advance.ensures.err c.in_err-advance.ensures.err_ticks
    ∙ sym (slot_after s s.pending (steps_left s.pending) s.pending.ticks c.if-slot.false refl refl) in
    let next : DeskValue = seen c.self.inside.sheet (set c.self.inside.slots c.in-Some.place (Some after)) in
    subst (λ (r : Result ℕ Refusal). IsEvent c.args.self.now (Step c.args.number) (count_answer r) next) (sym (p.1 ∙ ap (λ (e : Refusal). Err e) p.2)) (
      inr (ap step_refusal (found at) ∙ ap (λ (b : Bool). if b then Some Stale else None) c.if-slot.false, ((slot_value_of s, found at, some), refl)),
      unchanged at after same,
    )

pub returns : goal.returns
returns c =
    let at = (goal.at.returns c).Else-slot in
    let some : 0 < steps_left c.in-Some-slots.slot.pending = omega (arith, c.left.ensures, c.if-left-eq0.false) in
    let s = c.in-Some-slots.slot in
    let after : Slot = record { change = s.change; pending = c.advance.new.pending; is_stale = s.is_stale } in
    let cost = c.in_ok-advance.ensures.ticks some (change_of s.change) (pending_on at c.if-slot.false) in
    record {
      slot = slot_value_of s;
      held = found at;
      fresh = c.if-slot.false;
      told_is = c.in_ok-advance.ensures.left ∙ ap steps_told c.in_ok-advance.ensures.one;
      none = λ h. absurd (omega (arith, h, some));
      one = λ more. record {
        cost = cost.0;
        of_one = subst (λ (d : DeskValue). IsStepCost d.names (change_of s.change) cost.0) c.self.view_is cost.1;
        ticks = c.advance.new.pending.ticks;
        few = cost.2;
        rises = c.in_ok-advance.ensures.rises;
        next_is =
            put_seen (placed_fresh at) (Some after)
            ∙ ap (λ (now : SlotValue). with_held c.args.self.now c.args.number (Some now))
            (slot_after s c.advance.new.pending (steps_left s.pending - 1) c.advance.new.pending.ticks c.if-slot.false c.in_ok-advance.ensures.one refl);
      };
    }

pub invariant_of-self-in_err-advance : goal.invariant_of-self-in_err-advance
invariant_of-self-in_err-advance c =
    let at = (goal.at.invariant_of-self-in_err-advance c).Else-slot in
    let s = c.in-Some-slots.slot in
    let after : Slot = record { change = s.change; pending = c.advance.new.pending; is_stale = s.is_stale } in
    open_put c.self.inside.sheet c.self.inside.slots c.in-Some.place (Some after) c.self.invariant
    (λ fresh. c.in_err-advance.ensures.kept (change_of s.change) (pending_on at fresh))
