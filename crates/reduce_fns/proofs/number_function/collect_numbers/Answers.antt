use Rattle.reduce_fns.proofs.Placewise.{numbers_collected}
use Rattle.reduce_fns.proofs.number_function.collect_numbers.Goals as goal

pub returns : goal.returns
returns g c = rw (numbers_collected c.args.shape.now.items (g.F.NumberFunction.number c.args.function.now)) c.array_of.ensures
