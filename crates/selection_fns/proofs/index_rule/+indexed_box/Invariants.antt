use Rattle.std.proofs.Common.{length}
use Rattle.selection_fns.proofs.index_rule.+indexed_box.Given as goal

abbrev pub decreases-indexed_box : goal.decreases-indexed_box
decreases-indexed_box l = length l.written.now
