use Rattle.{std.proofs.Common.{subst, sym, Result}, arrays_core.{specs.Arrays.{ArrayValue, IsAnswerTo}, specs.declared.item.Kind.{Kind}}}
use Rattle.{index_region.proofs.Arguments.{whole_of_two}, structural_fns.specs.DyadicTranspose.{transpose_by_form, transpose_by_item}}
use Rattle.structural_fns.proofs.dyadic_transpose.DyadicTransposeAnnounced.whole.Goals as goal

pub returns : goal.returns
returns c = subst (λ (w : Result ArrayValue Kind). IsAnswerTo w c.apply.result) (sym (whole_of_two transpose_by_form transpose_by_item c.args.args.now c.requires)) c.apply.ensures
