use Rattle.std.proofs.Common.{length}
use Rattle.selection_fns.proofs.index.+are_on.Given as goal

abbrev pub decreases-are_on : goal.decreases-are_on
decreases-are_on l = length l.written.now
