use Rattle.std.{proofs.Common.{map}, specs.Option.{option_map}}
use Rattle.formula_core.{specs.Rules.{with_change}, specs.Tables.{tree_of_operand}, proofs.Stepping.{index_step}}
use Rattle.formula_core.proofs.stage.Stage.change_of_indexed.Goals as goal

pub returns-clause-step : goal.returns-clause-step
returns-clause-step c = λ change names trees staged holds.
    let f = option_map (tree_of_operand names trees) in
    index_step c.args.self.now.is_new change (tree_of_operand names trees c.args.array.now) (map f c.args.positions.now) c.argument-array.result c.in_ok-positions.positions.items c.args.held.now _ _
    (with_change c.change_of_index.new.change c.change_of_index.result) (c.argument-array.ensures.ready change names trees staged) (c.in_ok-positions.ensures.ready change names trees staged) holds
    (rw c.deref.ensures at c.change_of_index.ensures.change)
