use Rattle.std.proofs.Common.{rules}
use Rattle.index_region.proofs.intervals.Intervals.met.Goals as goal

pub loop-axis-preserved : goal.loop-axis-preserved
loop-axis-preserved c =
    record { long = search rules; done = search rules }
