use Rattle.{std.proofs.Common.{subst, sym, Result}, arrays_core.{specs.Arrays.{ArrayValue, IsAnswerTo}, specs.declared.item.Kind.{Kind}}}
use Rattle.{index_region.proofs.Arguments.{whole_of_one}, selection_fns.specs.IndexGenerator.{generator_form, generator_item}}
use Rattle.selection_fns.proofs.index_generator.IndexGeneratorAnnounced.whole.Goals as goal

pub returns : goal.returns
returns c = subst (λ (w : Result ArrayValue Kind). IsAnswerTo w c.apply.result) (sym (whole_of_one generator_form generator_item c.args.args.now c.requires)) c.apply.ensures
