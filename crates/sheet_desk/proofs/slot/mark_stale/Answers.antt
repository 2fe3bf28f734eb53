use Rattle.std.{proofs.Common.{set, None, Some, ap, ◌∙◌}, specs.Option.{option_map}}
use Rattle.sheet_desk.{specs.Held.{marked}, proofs.Marking.{one_more}, proofs.slot.mark_stale.Goals.{in-Some, in_default}}
use Rattle.sheet_desk.proofs.slot.mark_stale.Goals as goal

pub loop-held-preserved : goal.loop-held-preserved
loop-held-preserved c =
    let more = one_more (option_map marked) c.args.slots.now c.loop-held.held-index c.held-item.result c.loop-held-test.true c.loop-held.slots c.match-held.slots in
    elim c.match-held.branch [
      | in-Some w ↦ more (Some w.in-Some.slot) c.loop-held.invariant w.in-Some.is w.slots-is
      | in_default w ↦ more None c.loop-held.invariant w.in_default.is (w.slots-is ∙ ap (set c.loop-held.slots c.loop-held.held-index) w.in_default.is)
    ]
