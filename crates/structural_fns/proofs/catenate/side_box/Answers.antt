use Rattle.{std.proofs.Common.{◌≤◌, ◌<◌, length, get_or, arith}, structural_fns.proofs.Moved.{interval_on}}
use Rattle.structural_fns.proofs.catenate.side_box.Goals as goal

pub moved_interval-first-requires-clause-high : goal.moved_interval-first-requires-clause-high
moved_interval-first-requires-clause-high c =
    let shape = c.args.side.now.shape in
    let rank = rw c.shape.ensures.is at c.len-rank.ensures.value in
    let below : c.args.axis < length shape = omega arith in
    let bound : get_or shape c.args.axis 0 ≤ 1048576 = c.shape.ensures.sound.within.axes c.args.axis 0 below in
    rw c.as_slice.ensures.is (omega (arith, (interval_on c.args.region.now shape c.args.axis c.requires.fit below).high))
