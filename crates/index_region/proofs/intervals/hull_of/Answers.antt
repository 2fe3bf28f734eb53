use Rattle.{std.proofs.Common.{arith, rules}, index_region.proofs.Boxes.{hull_more}}
use Rattle.index_region.proofs.intervals.hull_of.Goals as goal

pub loop-axis-preserved : goal.loop-axis-preserved
loop-axis-preserved c =
    let more = hull_more c.loop-axis.axis c.args.ours.now c.args.theirs.now (omega arith) c.requires.as_many in
    record { long = search rules; done = search rules }
