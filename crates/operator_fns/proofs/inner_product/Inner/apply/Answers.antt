use Rattle.{std.proofs.Common.{subst}, arrays_core.specs.Arrays.{IsAnswerTo}, index_region.proofs.Arguments.{whole_of_two}}
use Rattle.operator_fns.specs.InnerProduct.{inner_form, inner_item}
use Rattle.operator_fns.proofs.inner_product.Inner.apply.Goals as goal

pub returns-in_default : goal.returns-in_default
returns-in_default c =
    subst (λ w. IsAnswerTo w c.apply.result) (whole_of_two inner_form (inner_item c.args.self.now.fold c.args.self.now.each) c.args.args.now c.requires) c.apply.ensures
