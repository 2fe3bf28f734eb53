use Rattle.{std.proofs.Common.{◌≡◌, ◌+◌, true, arith}, structural_fns.{specs.DyadicTranspose.{axes_to, occurs, greatest_of}, proofs.Entries.{range_more}}}
use Rattle.structural_fns.proofs.dyadic_transpose.are_axes.Goals as goal

pub loop-axis-preserved : goal.loop-axis-preserved
loop-axis-preserved c =
    let axes = axes_to c.args.axes.now in
    let here : occurs axes (c.loop-axis.axis + 1) ≡ true = grind arith in
    rw here at (rw (range_more (greatest_of axes) c.loop-axis.axis (omega (arith, c.greatest-axis-end.ensures))) at c.loop-axis.invariant)
