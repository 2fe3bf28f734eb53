use Rattle.{std.proofs.Common.{replicate}, selection_fns.proofs.Copies.{AreBefore}}
use Rattle.selection_fns.proofs.replicate.before_copies_of_one_count.Given as goal

abbrev pub invariant-loop-place : goal.invariant-loop-place
invariant-loop-place l = AreBefore (replicate l.fn.places l.fn.count) l.place l.before.items
