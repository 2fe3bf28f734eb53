use Rattle.{std.proofs.Common.{◌≡◌, drop}, index_region.specs.Arguments.{numbers, none_negative}}
use Rattle.index_region.proofs.seen.Seen.has_negative.Given as goal

abbrev pub invariant-loop-place : goal.invariant-loop-place
invariant-loop-place l = none_negative (drop l.place (numbers l.fn.self)) ≡ none_negative (numbers l.fn.self)
