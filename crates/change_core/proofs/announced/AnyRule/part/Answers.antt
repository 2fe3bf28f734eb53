use Rattle.{std.proofs.Common.{arith}, change_core.proofs.Filling.{few_places}}
use Rattle.change_core.proofs.announced.AnyRule.part.Goals as goal

pub size-requires : goal.size-requires
size-requires g c = omega (arith, few_places c.args.region.now c.args.shape.now c.requires.fit c.requires.within)

pub overflow_cast-size : goal.overflow_cast-size
overflow_cast-size g c = omega (arith, few_places c.args.region.now c.args.shape.now c.requires.fit c.requires.within, c.size.ensures)
