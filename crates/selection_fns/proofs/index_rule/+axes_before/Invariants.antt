use Rattle.std.proofs.Common.{length}
use Rattle.selection_fns.proofs.index_rule.+axes_before.Given as goal

abbrev pub decreases-axes_before : goal.decreases-axes_before
decreases-axes_before l = length l.written.now
