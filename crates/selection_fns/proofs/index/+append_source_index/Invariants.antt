use Rattle.std.proofs.Common.{length}
use Rattle.selection_fns.proofs.index.+append_source_index.Given as goal

abbrev pub decreases-append_source_index : goal.decreases-append_source_index
decreases-append_source_index l = length l.written.now
