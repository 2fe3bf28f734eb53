use Rattle.{std.proofs.Common.{subst}, arrays_core.specs.Arrays.{IsAnswerTo}, index_region.proofs.Arguments.{whole_of_one}}
use Rattle.selection_fns.specs.Shape.{shape_form, shape_item}
use Rattle.selection_fns.proofs.shape.ShapeOf.apply.Goals as goal

pub returns : goal.returns
returns c = subst (λ w. IsAnswerTo w c.apply.result) (whole_of_one shape_form shape_item c.args.args.now c.requires) c.apply.ensures
