use Rattle.std.proofs.Common.{length}
use Rattle.index_region.proofs.index_box.+are_on.Given as goal

abbrev pub decreases-are_on : goal.decreases-are_on
decreases-are_on l = length l.intervals.now
