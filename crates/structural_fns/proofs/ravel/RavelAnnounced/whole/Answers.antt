use Rattle.{std.proofs.Common.{subst, sym}, arrays_core.specs.Arrays.{IsAnswerTo}, index_region.proofs.Arguments.{whole_of_one}}
use Rattle.structural_fns.specs.Ravel.{ravel_form, ravel_item}
use Rattle.structural_fns.proofs.ravel.RavelAnnounced.whole.Goals as goal

pub returns : goal.returns
returns c = subst (λ w. IsAnswerTo w c.apply.result) (sym (whole_of_one ravel_form ravel_item c.args.args.now c.requires)) c.apply.ensures
