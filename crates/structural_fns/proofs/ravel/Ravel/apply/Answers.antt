use Rattle.structural_fns.proofs.Runs.{ravel_answer}
use Rattle.structural_fns.proofs.ravel.Ravel.apply.Goals as goal

pub returns : goal.returns
returns c =
    ravel_answer c.args.args.now c.index-args-0.result c.in_ok-vector.vector c.places.result c.shape_of.result.items c.in_ok-shape.shape.items c.item_type.result c.in_ok-shape.field-0-1 c.requires c.index-args-0.is c.shape_of.ensures.items c.places.ensures.size c.places.ensures.is c.item_type.ensures.is c.in_ok-shape.ensures.0 c.in_ok-vector.ensures
