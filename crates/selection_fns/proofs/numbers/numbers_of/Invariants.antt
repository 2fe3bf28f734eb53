use Rattle.{std.proofs.Common.{◌≡◌, take}, index_region.specs.Arguments.{numbers}}
use Rattle.selection_fns.proofs.numbers.numbers_of.Given as goal

abbrev pub invariant-loop-before : goal.invariant-loop-before
invariant-loop-before l = l.found.items ≡ take l.before (numbers l.array)
