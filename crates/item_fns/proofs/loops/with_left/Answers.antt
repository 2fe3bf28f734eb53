use Rattle.std.{proofs.Common.{w64}, proofs.lemmas.Int.{to_z-of_z}}
use Rattle.item_fns.proofs.loops.with_left.Goals as goal

pub returns-clause-is : goal.returns-clause-is
returns-clause-is g c = rw (to_z-of_z w64 c.args.left c.ranges.left) at c.on_each.ensures.is
