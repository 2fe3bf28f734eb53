use Rattle.{std.proofs.Common.{◌≡◌, ◌+◌, ◌≤◌, drop, map, length, Ok}, apl_expr.specs.Trees.{position_of, positions_of}, change_core.specs.Meters.{ticked}}
use Rattle.formula_core.{specs.Evaluated.{position_in}, specs.Meaning.{eval_positions}, proofs.Counted.{cost_from}}
use Rattle.formula_core.proofs.evaluation.+value.Given as goal

abbrev pub invariant-position_operands-loop-k : goal.invariant-position_operands-loop-k
invariant-position_operands-loop-k g l = record {
  so_far : Ok (map position_in l.operands.items) ≡ eval_positions (positions_of (map position_of (drop l.k l.positions))) (g.S.Shows.shows l.names);
  within : l.k ≤ length l.positions;
  most : l.meter.ticks ≤ l.fn.meter.ticks + cost_from (g.S.Shows.shows l.names) l.positions l.k;
  least : ticked l.fn.meter.ticks (cost_from (g.S.Shows.shows l.names) l.positions l.k) ≤ l.meter.ticks;
}
