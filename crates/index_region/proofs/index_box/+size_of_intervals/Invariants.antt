use Rattle.std.proofs.Common.{length}
use Rattle.index_region.proofs.index_box.+size_of_intervals.Given as goal

abbrev pub decreases-size_of_intervals : goal.decreases-size_of_intervals
decreases-size_of_intervals l = length l.intervals.now
