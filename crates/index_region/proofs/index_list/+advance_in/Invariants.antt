use Rattle.std.proofs.Common.{length}
use Rattle.index_region.proofs.index_list.+advance_in.Given as goal

abbrev pub decreases-advance_in : goal.decreases-advance_in
decreases-advance_in l = length l.intervals.now
