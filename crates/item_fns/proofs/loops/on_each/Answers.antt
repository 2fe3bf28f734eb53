use Rattle.item_fns.proofs.Lists.{each_place}
use Rattle.item_fns.proofs.loops.on_each.Goals as goal

pub returns-clause-is : goal.returns-clause-is
returns-clause-is g c = rw (each_place (g.S.OneNumber.gives c.args.step.now) c.args.numbers.now) c.made.ensures.is
