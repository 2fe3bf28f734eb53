use Rattle.{std.proofs.Common.{arith}, structural_fns.{proofs.Entries.{entries_long}, proofs.SourcePlaces.{gathered_inside}}}
use Rattle.structural_fns.proofs.dyadic_transpose.DyadicTranspose.source.Goals as goal

pub gathered-at-requires : goal.gathered-at-requires
gathered-at-requires c = omega (arith, entries_long c.args.axes.now c.args.array.now c.args.index.now c.requires, c.shape.ensures.sound.within.rank)

pub returns-clause-inside : goal.returns-clause-inside
returns-clause-inside c =
    (rw c.gathered-at.ensures.is (gathered_inside c.args.axes.now c.args.array.now c.args.index.now c.requires), c.gathered-at.ensures.inline)
