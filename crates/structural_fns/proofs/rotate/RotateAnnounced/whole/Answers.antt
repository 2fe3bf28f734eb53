use Rattle.{std.proofs.Common.{subst, sym, Result}, arrays_core.{specs.Arrays.{ArrayValue, IsAnswerTo}, specs.declared.item.Kind.{Kind}}}
use Rattle.{index_region.proofs.Arguments.{whole_of_two}, structural_fns.specs.Rotate.{rotate_form, rotate_item}}
use Rattle.structural_fns.proofs.rotate.RotateAnnounced.whole.Goals as goal

pub returns : goal.returns
returns c =
    let along = c.args.self.now.along in
    subst (λ (w : Result ArrayValue Kind). IsAnswerTo w c.apply.result) (sym (whole_of_two (rotate_form along) (rotate_item along) c.args.args.now c.requires)) c.apply.ensures
