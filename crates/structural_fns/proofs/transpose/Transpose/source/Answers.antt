use Rattle.{std.{proofs.Common.{◌≡◌, rules, length, reverse, arith}, proofs.lemmas.List.{length-reverse}}, arrays_core.proofs.Shapes.{as_long}}
use Rattle.structural_fns.proofs.SourcePlaces.{transpose_inside}
use Rattle.structural_fns.proofs.transpose.Transpose.source.Goals as goal

pub from_last-at-requires : goal.from_last-at-requires
from_last-at-requires c =
    let axes = c.args.array.now.shape in
    let long = as_long (reverse axes) c.args.index.now (search rules) in
    let same : length (reverse axes) ≡ length axes = length-reverse axes in
    omega (arith, c.shape.ensures.sound.within.rank)

pub returns-clause-inside : goal.returns-clause-inside
returns-clause-inside c = (rw c.from_last-at.ensures.is (transpose_inside c.args.array.now c.args.index.now c.requires), c.from_last-at.ensures.inline)
