use Rattle.structural_fns.proofs.SourcePlaces.{ravel_inside}
use Rattle.structural_fns.proofs.ravel.Ravel.source.Goals as goal

pub returns-clause-inside : goal.returns-clause-inside
returns-clause-inside c =
    (rw (c.index_of_position-at.ensures.is, c.shape.ensures.is) (ravel_inside c.args.array.now c.args.index.now c.requires), c.index_of_position-at.ensures.inline)
