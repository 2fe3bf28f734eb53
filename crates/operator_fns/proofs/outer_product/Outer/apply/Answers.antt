use Rattle.{std.proofs.Common.{subst}, arrays_core.specs.Arrays.{IsAnswerTo}, index_region.proofs.Arguments.{whole_of_two}}
use Rattle.operator_fns.specs.OuterProduct.{outer_form, outer_item}
use Rattle.operator_fns.proofs.outer_product.Outer.apply.Goals as goal

pub returns-in_default : goal.returns-in_default
returns-in_default c =
    subst (λ w. IsAnswerTo w c.apply.result) (whole_of_two outer_form (outer_item c.args.self.now.function) c.args.args.now c.requires) c.apply.ensures
