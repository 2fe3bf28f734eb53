use Rattle.std.proofs.Common.{length}
use Rattle.change_rules.proofs.arguments.+views_are_arrays.Given as goal

abbrev pub decreases-views_are_arrays : goal.decreases-views_are_arrays
decreases-views_are_arrays l = length l.seen.now
