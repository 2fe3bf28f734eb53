use Rattle.{std.proofs.Common.{subst, sym}, arrays_core.specs.Arrays.{IsAnswerTo}, index_region.proofs.Arguments.{whole_of_two}}
use Rattle.structural_fns.specs.Take.{take_form, take_item}
use Rattle.structural_fns.proofs.take.TakeAnnounced.whole.Goals as goal

pub returns : goal.returns
returns c = subst (λ w. IsAnswerTo w c.apply.result) (sym (whole_of_two take_form take_item c.args.args.now c.requires)) c.apply.ensures
