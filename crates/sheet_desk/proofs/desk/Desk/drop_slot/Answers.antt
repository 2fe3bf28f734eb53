use Rattle.std.proofs.Common.{None, Some, not, inl, refl, ap, ◌∙◌}
use Rattle.sheet_desk.{specs.Desk.{drop_refusal}, specs.Held.{slot_value_of}, proofs.Slotted.{IsPlaced, none_seen, held_seen, put_seen, is_there, is_not_there}, proofs.Staling.{open_put}, proofs.desk.Desk.drop_slot.Goals.{In-Some}}
use Rattle.sheet_desk.proofs.desk.Desk.drop_slot.Goals as goal

-- the place of the number
placed : (c : In-Some) → IsPlaced c.self.inside.sheet c.self.inside.slots c.args.number c.args.self.now c.in-Some.place
placed c = record { fits = c.ranges.number; view = c.self.view_is; found = c.in-Some.ensures }

pub returns-in_default : goal.returns-in_default
returns-in_default c = (inl (ap drop_refusal (none_seen c.self.inside.sheet c.self.inside.slots c.args.number c.args.self.now c.ranges.number c.self.view_is c.in_default.ensures)), refl)

pub returns-then-is_none : goal.returns-then-is_none
returns-then-is_none c =
    let none = is_not_there _ (c.is_none.ensures ∙ ap not c.if-is_none.true) in
    (inl (ap drop_refusal (held_seen (placed (goal.at.returns-then-is_none c).In-Some) c.index-self-place.result None none)), refl)

pub returns : goal.returns
returns c =
    let at = placed (goal.at.returns c).In-Some in
    let some = is_there _ (c.is_none.ensures ∙ ap not c.if-is_none.false) in
    record { slot = slot_value_of some.0; held = held_seen at c.index-self-place.result (Some some.0) some.1; next_is = put_seen at None }

pub invariant_of-self : goal.invariant_of-self
invariant_of-self c = open_put c.self.inside.sheet c.self.inside.slots c.in-Some.place None c.self.invariant tt
