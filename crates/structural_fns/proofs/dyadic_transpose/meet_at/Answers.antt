use Rattle.std.proofs.Common.{◌≡◌, suc, ◌-◌, ◌<◌, ◌∙◌, sym, arith, length}
use Rattle.structural_fns.{specs.DyadicTranspose.{axes_from_zero}, proofs.Meets.{axes_long, meet_past}}
use Rattle.structural_fns.proofs.dyadic_transpose.meet_at.Goals as goal

pub loop-from-preserved : goal.loop-from-preserved
loop-from-preserved c =
    let axes = axes_from_zero c.args.axes.now in
    let k = c.loop-from.from - 1 in
    let next : c.loop-from.from ≡ suc k = omega (arith, c.loop-from-test.true) in
    let below : k < length c.args.intervals.now = omega (arith, c.loop-from.auto.from, c.loop-from-test.true) in
    let long = axes_long c.args.axes.now in
    let there : k < length axes = omega (arith, c.requires.as_many) in
    let past = meet_past c.args.axis c.args.places k axes c.args.intervals.now there below (λ e. c.if-axis_to-axis.false (c.axis_to.ensures ∙ e)) in
    rw next at c.loop-from.invariant ∙ sym past
