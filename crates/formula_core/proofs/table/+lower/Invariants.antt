use Rattle.{std.proofs.Common.{take, map}, apl_expr.specs.Trees.{position_of}}
use Rattle.formula_core.{specs.Holdings.{nodes_of, AreNotWorkedOut}, specs.Tables.{ArePositionsLowered}}
use Rattle.formula_core.proofs.table.+lower.Given as goal

abbrev pub invariant-lower_positions-loop-position : goal.invariant-lower_positions-loop-position
invariant-lower_positions-loop-position l = record {
  lowered : ArePositionsLowered l.fn.names.items l.names.items (nodes_of l.fn.nodes.items) (nodes_of l.nodes.items) (map position_of (take l.position-index l.positions)) l.operands.items;
  anew : AreNotWorkedOut l.fn.nodes.items → AreNotWorkedOut l.nodes.items;
}
