use Rattle.{std.proofs.Common.{subst, sym, Result}, arrays_core.{specs.Arrays.{ArrayValue, IsAnswerTo}, specs.declared.item.Kind.{Kind}}}
use Rattle.{index_region.proofs.Arguments.{whole_of_two}, selection_fns.specs.Replicate.{replicate_form, replicate_item}}
use Rattle.selection_fns.proofs.replicate_rule.ReplicateAnnounced.whole.Goals as goal

pub returns : goal.returns
returns c =
    let along = c.args.self.now.along in
    subst (λ (w : Result ArrayValue Kind). IsAnswerTo w c.apply.result) (sym (whole_of_two (replicate_form along) (replicate_item along) c.args.args.now c.requires)) c.apply.ensures
