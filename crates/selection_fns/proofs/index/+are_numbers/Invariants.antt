use Rattle.std.proofs.Common.{length}
use Rattle.selection_fns.proofs.index.+are_numbers.Given as goal

abbrev pub decreases-are_numbers : goal.decreases-are_numbers
decreases-are_numbers l = length l.written.now
