use Rattle.{std.proofs.Common.{subst, sym, Result}, arrays_core.{specs.Arrays.{ArrayValue, IsAnswerTo}, specs.declared.item.Kind.{Kind}}}
use Rattle.{index_region.proofs.Arguments.{whole_of_two}, operator_fns.specs.InnerProduct.{inner_form, inner_item}}
use Rattle.operator_fns.proofs.inner_product.InnerAnnounced.whole.Goals as goal

pub returns : goal.returns
returns c =
    let i = c.args.self.now in
    subst (λ (w : Result ArrayValue Kind). IsAnswerTo w c.apply.result) (sym (whole_of_two inner_form (inner_item i.fold i.each) c.args.args.now c.requires)) c.apply.ensures
