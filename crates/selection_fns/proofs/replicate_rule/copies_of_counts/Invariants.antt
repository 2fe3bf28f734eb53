use Rattle.{std.{proofs.Common.{◌≡◌, map, take, unsigned_abs}, specs.Prelude.{sum}}, index_region.specs.Arguments.{numbers}}
use Rattle.selection_fns.proofs.replicate_rule.copies_of_counts.Given as goal

abbrev pub invariant-loop-place : goal.invariant-loop-place
invariant-loop-place l = l.copies ≡ sum (take l.place (map unsigned_abs (numbers l.fn.counts)))
