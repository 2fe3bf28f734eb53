use Rattle.{std.proofs.Common.{subst, sym, Result}, arrays_core.{specs.Arrays.{ArrayValue, IsAnswerTo}, specs.declared.item.Kind.{Kind}}}
use Rattle.{index_region.proofs.Arguments.{whole_of_one}, reduce_fns.specs.Reduce.{reduce_form, reduce_item}}
use Rattle.reduce_fns.proofs.reduce.ReduceAnnounced.whole.Goals as goal

pub returns : goal.returns
returns c =
    let r = c.args.self.now in
    subst (λ (w : Result ArrayValue Kind). IsAnswerTo w c.apply.result) (sym (whole_of_one (reduce_form r.along) (reduce_item r.function r.along) c.args.args.now c.requires)) c.apply.ensures
