use Rattle.{std.{proofs.Common.{ℕ, List, map, take}, specs.Option.{option_map}}, apl_expr.specs.Trees.{Tree}}
use Rattle.formula_core.{specs.Changes.{NamesChange}, specs.Inputs.{AllHaveFit}, specs.Stages.{IsStaged, GiveTheirTrees}, specs.Tables.{tree_of_operand}}
use Rattle.formula_core.proofs.stage.Stage.positions.Given as goal

abbrev pub invariant-loop-argument : goal.invariant-loop-argument
invariant-loop-argument l = record {
  fit : AllHaveFit l.positions.items;
  ready : (c : NamesChange) → (names : List (List ℕ)) → (trees : List Tree) → IsStaged c names trees l.fn.self → GiveTheirTrees l.fn.self.is_new c (map (option_map (tree_of_operand names trees)) (take l.argument-index l.fn.arguments)) l.positions.items;
}
