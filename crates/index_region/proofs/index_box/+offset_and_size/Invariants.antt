use Rattle.std.proofs.Common.{length}
use Rattle.index_region.proofs.index_box.+offset_and_size.Given as goal

abbrev pub decreases-offset_and_size : goal.decreases-offset_and_size
decreases-offset_and_size l = length l.intervals.now
