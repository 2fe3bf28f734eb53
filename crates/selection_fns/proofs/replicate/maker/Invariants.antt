use Rattle.{std.proofs.Common.{◌≡◌, ◌+◌, map, drop, unsigned_abs}, index_region.specs.Arguments.{numbers}}
use Rattle.selection_fns.{specs.Replicate.{maker}, specs.Laws.RepeatedPlaces.{walk}}
use Rattle.selection_fns.proofs.replicate.maker.Given as goal

abbrev pub invariant-loop-place : goal.invariant-loop-place
invariant-loop-place l = l.place + walk (map unsigned_abs (drop l.place (numbers l.fn.counts))) l.left ≡ maker (map unsigned_abs (numbers l.fn.counts)) l.fn.copy
