use Rattle.{std.proofs.Common.{◌-◌, ℕ, Some}, formula_core.{specs.Formulas.{operations}, specs.Progress.{operations_among}}}
use Rattle.sheet_recalc.{specs.ProposedSheet.{outline_of}, specs.Planning.{IsNext, IsPaid}, specs.declared.plans.Plans.{Plans}}
use Rattle.sheet_recalc.proofs.ahead.Ahead.apply.Given as goal

abbrev pub invariant-loop-plan : goal.invariant-loop-plan
invariant-loop-plan l = record {
  way : (base left : ℕ) (w : Plans) → IsNext (outline_of l.self.proposed.now) base left w l.formula l.fn.current l.fn.meter.ticks
      → (rest : ℕ) × IsNext (outline_of l.self.proposed.now) base rest w l.formula (Some l.plan) l.meter.ticks × IsPaid (outline_of l.self.proposed.now) l.fn.budget l.budget left rest l.fn.meter.ticks l.meter.ticks;
}

abbrev pub decreases-loop-plan : goal.decreases-loop-plan
decreases-loop-plan l = operations l.formula.tree - operations_among l.formula l.plan.changes
