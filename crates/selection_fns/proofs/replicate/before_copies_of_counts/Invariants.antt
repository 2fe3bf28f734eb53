use Rattle.{std.proofs.Common.{map, unsigned_abs}, selection_fns.proofs.Copies.{AreBefore}}
use Rattle.selection_fns.proofs.replicate.before_copies_of_counts.Given as goal

abbrev pub invariant-loop-place : goal.invariant-loop-place
invariant-loop-place l = AreBefore (map unsigned_abs l.counts) l.place l.before.items
