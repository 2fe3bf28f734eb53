use Rattle.{std.proofs.Common.{subst, sym, Result}, arrays_core.{specs.Arrays.{ArrayValue, IsAnswerTo}, specs.declared.item.Kind.{Kind}}}
use Rattle.{index_region.proofs.Arguments.{whole_of_two}, operator_fns.specs.OuterProduct.{outer_form, outer_item}}
use Rattle.operator_fns.proofs.outer_product.OuterAnnounced.whole.Goals as goal

pub returns : goal.returns
returns c =
    let f = c.args.self.now.function in
    subst (λ (w : Result ArrayValue Kind). IsAnswerTo w c.apply.result) (sym (whole_of_two outer_form (outer_item f) c.args.args.now c.requires)) c.apply.ensures
