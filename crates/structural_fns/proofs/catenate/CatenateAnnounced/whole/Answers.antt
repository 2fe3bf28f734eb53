use Rattle.{std.proofs.Common.{subst, sym}, arrays_core.specs.Arrays.{IsAnswerTo}, index_region.proofs.Arguments.{whole_of_two}}
use Rattle.structural_fns.specs.Catenate.{catenate_form, catenate_item}
use Rattle.structural_fns.proofs.catenate.CatenateAnnounced.whole.Goals as goal

pub returns : goal.returns
returns c =
    let along = c.args.self.now.along in
    subst (λ w. IsAnswerTo w c.apply.result) (sym (whole_of_two (catenate_form along) (catenate_item along) c.args.args.now c.requires)) c.apply.ensures
