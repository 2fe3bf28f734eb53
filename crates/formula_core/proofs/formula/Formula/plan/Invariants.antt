use Rattle.{std.{proofs.Common.{◌+◌, ◌-◌, ◌≤◌, length, take}, specs.List.{sum_by}}, change_core.specs.Meters.{ticked}}
use Rattle.formula_core.{specs.Changes.{NamesChange}, specs.Formulas.{operations}, specs.Joins.{least_joins, most_joins}, specs.Plans.{node_cost_at, AllComputed, IsTold}, specs.Progress.{operations_among, IsPlannedTo}, specs.Tables.{subtrees}}
use Rattle.formula_core.proofs.formula.Formula.plan.Given as goal

abbrev pub invariant-loop-plan : goal.invariant-loop-plan
invariant-loop-plan l = record {
  planned : (c : NamesChange) → IsTold l.fn.self c l.fn.inputs → IsPlannedTo l.fn.self c l.plan;
  ticks : (c : NamesChange) → IsTold l.fn.self c l.fn.inputs → l.meter.ticks ≤ l.fn.meter.ticks + sum_by (node_cost_at l.fn.self.is_new c) (take (length l.plan.changes) (subtrees l.fn.self.tree));
  least : (c : NamesChange) → IsTold l.fn.self c l.fn.inputs → AllComputed l.fn.self.is_new c l.fn.self.tree → ticked l.fn.meter.ticks l.plan.cost ≤ l.meter.ticks;
  joins : (c : NamesChange) → IsTold l.fn.self c l.fn.inputs → l.meter.joins ≤ l.fn.meter.joins + sum_by (most_joins l.fn.self.is_new c) (take (length l.plan.changes) (subtrees l.fn.self.tree));
  joined : (c : NamesChange) → IsTold l.fn.self c l.fn.inputs → AllComputed l.fn.self.is_new c l.fn.self.tree
      → ticked l.fn.meter.joins (sum_by (least_joins l.fn.self.is_new c) (take (length l.plan.changes) (subtrees l.fn.self.tree))) ≤ l.meter.joins;
  rises : l.fn.meter.ticks ≤ l.meter.ticks;
}

abbrev pub decreases-loop-plan : goal.decreases-loop-plan
decreases-loop-plan l = operations l.fn.self.tree - operations_among l.fn.self l.plan.changes
