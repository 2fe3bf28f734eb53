use Rattle.{std.proofs.Common.{subst}, arrays_core.specs.Arrays.{IsAnswerTo}}
use Rattle.selection_fns.{specs.Index.{index_form, index_item}, proofs.Indexed.{whole_of_positions}}
use Rattle.selection_fns.proofs.index.Index.apply.Goals as goal

pub returns-then-has_long_rows : goal.returns-then-has_long_rows
returns-then-has_long_rows c = subst (λ w. IsAnswerTo w c.apply_rows.result) (whole_of_positions index_form index_item c.args.self.now.written.now c.args.args.now c.requires) c.apply_rows.ensures
