use Rattle.{std.proofs.Common.{arith}, structural_fns.specs.Laws.SharedAxes.{shared_long}}
use Rattle.structural_fns.proofs.catenate.joined_shape.Goals as goal

pub with_axis-requires-clause-rank : goal.with_axis-requires-clause-rank
with_axis-requires-clause-rank c =
    grind (arith, shared_long c.args.left.now c.args.right.now c.args.axis (omega (arith, c.requires.there, c.requires.greatest)) c.requires.ranks)
