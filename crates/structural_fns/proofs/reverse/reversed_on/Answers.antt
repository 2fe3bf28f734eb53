use Rattle.{std.proofs.Common.{arith}, structural_fns.proofs.Intervals.{interval_on}}
use Rattle.structural_fns.proofs.reverse.reversed_on.Goals as goal

pub overflow_sub-places : goal.overflow_sub-places
overflow_sub-places c =
    let here = interval_on c.args.region.now c.args.axes.now c.args.axis 0 c.requires c.if-axis-axes.false in
    rw c.as_slice.ensures.is (omega arith)

pub overflow_sub-places-2 : goal.overflow_sub-places-2
overflow_sub-places-2 c =
    let here = interval_on c.args.region.now c.args.axes.now c.args.axis 0 c.requires c.if-axis-axes.false in
    rw c.as_slice.ensures.is (omega arith)
