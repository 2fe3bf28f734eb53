use Rattle.{std.proofs.Common.{subst, sym, Result}, arrays_core.{specs.Arrays.{ArrayValue, IsAnswerTo}, specs.declared.item.Kind.{Kind}}}
use Rattle.selection_fns.{specs.Index.{index_form, index_item}, proofs.Indexed.{whole_of_positions}}
use Rattle.selection_fns.proofs.index_rule.IndexAnnounced.whole.Goals as goal

pub returns : goal.returns
returns c = subst (λ (w : Result ArrayValue Kind). IsAnswerTo w c.apply.result) (sym (whole_of_positions index_form index_item c.args.self.now.written.now c.args.args.now c.requires)) c.apply.ensures
