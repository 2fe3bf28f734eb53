use Rattle.std.{proofs.Common.{◌≡◌, List, Option, Some, Result, IfOk, ◌∙◌, ap, sym, subst}, specs.Option.{ok_or}, proofs.lemmas.List.{get_or_default}}
use Rattle.sheet_recalc.{specs.declared.refusal.Refusal.{Refusal}, specs.declared.refusal.Refusal.TheVariants.{NoSlot}}
use Rattle.sheet_desk.{specs.Slots.{slot_in}, proofs.Slotted.{slot_there}, specs.declared.slot.Slot.{Slot}}
use Rattle.sheet_desk.proofs.slot.take_ready.Goals as goal

pub returns-in-Some-3-clause-ok : goal.returns-in-Some-3-clause-ok
returns-in-Some-3-clause-ok c =
    let slots : List (Option Slot) = c.args.slots.now in
    let slot = c.in-Some-3.field-0 in
    let taken = c.take.ensures.value ∙ get_or_default slots c.in-Some.place c.index-slots-place-in-Some-3.result c.index-slots-place.result c.in-Some.ensures.0
    ∙ c.in-Some-3.is in
    let given = c.ok_or.ensures.value ∙ ap (λ (held : Option Slot). ok_or held NoSlot) taken in
    subst (λ (r : Result Slot Refusal). IfOk r (λ s. slot_in slots c.args.number ≡ Some (Some s))) (sym given)
    (slot_there c.args.number c.ranges.number slots c.in-Some.place c.in-Some.ensures c.index-slots-place.result (Some slot) c.in-Some-3.is)
