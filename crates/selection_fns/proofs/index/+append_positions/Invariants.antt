use Rattle.std.proofs.Common.{length}
use Rattle.selection_fns.proofs.index.+append_positions.Given as goal

abbrev pub decreases-append_positions : goal.decreases-append_positions
decreases-append_positions l = length l.written.now
