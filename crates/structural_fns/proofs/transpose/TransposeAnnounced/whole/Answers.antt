use Rattle.{std.proofs.Common.{subst, sym, Result}, arrays_core.{specs.Arrays.{ArrayValue, IsAnswerTo}, specs.declared.item.Kind.{Kind}}}
use Rattle.{index_region.proofs.Arguments.{whole_of_one}, structural_fns.specs.Transpose.{transpose_form, transpose_item}}
use Rattle.structural_fns.proofs.transpose.TransposeAnnounced.whole.Goals as goal

pub returns : goal.returns
returns c = subst (λ (w : Result ArrayValue Kind). IsAnswerTo w c.apply.result) (sym (whole_of_one transpose_form transpose_item c.args.args.now c.requires)) c.apply.ensures
