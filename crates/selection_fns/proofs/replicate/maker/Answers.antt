use Rattle.{std.proofs.Common.{map, unsigned_abs, arith}, index_region.specs.Arguments.{numbers}, selection_fns.specs.Laws.RepeatedPlaces.{maker_is_walk}}
use Rattle.selection_fns.proofs.replicate.maker.Goals as goal

pub loop-place-init : goal.loop-place-init
loop-place-init c = omega (arith, maker_is_walk (map unsigned_abs (numbers c.args.counts.now)) c.args.copy c.requires.low c.requires.high)
