use Rattle.{std.proofs.Common.{subst, sym, Result}, arrays_core.{specs.Arrays.{ArrayValue, IsAnswerTo}, specs.declared.item.Kind.{Kind}}}
use Rattle.{index_region.proofs.Arguments.{whole_of_one}, selection_fns.specs.Shape.{shape_form, shape_item}}
use Rattle.selection_fns.proofs.shape.ShapeOfAnnounced.whole.Goals as goal

pub returns : goal.returns
returns c = subst (λ (w : Result ArrayValue Kind). IsAnswerTo w c.apply.result) (sym (whole_of_one shape_form shape_item c.args.args.now c.requires)) c.apply.ensures
