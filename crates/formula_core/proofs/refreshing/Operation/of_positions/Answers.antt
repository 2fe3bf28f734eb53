use Rattle.{std.proofs.Common.{◌∙◌, sym}, selection_fns.specs.Laws.Index.{length-selectors}}
use Rattle.formula_core.proofs.refreshing.Operation.of_positions.Goals as goal

pub by-requires-clause-count : goal.by-requires-clause-count
by-requires-clause-count c = c.requires.count ∙ sym (length-selectors c.args.written.now)
