use Rattle.std.proofs.Common.{length}
use Rattle.index_region.proofs.index_box.+is_inside.Given as goal

abbrev pub decreases-is_inside : goal.decreases-is_inside
decreases-is_inside l = length l.intervals.now
