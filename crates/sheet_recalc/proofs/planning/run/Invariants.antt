use Rattle.{std.{proofs.Common.{◌≡◌, ℕ, Some, [], get_or, IfSome}, specs.Map.{keys_of}}, index_region.specs.declared.delta.Delta.TheVariants.{Same}}
use Rattle.sheet_recalc.{specs.ProposedSheet.{outline_of, entry_of}, specs.Planning.{IsOnTheWay, IsPaid}}
use Rattle.sheet_recalc.specs.declared.entry.Entry.TheVariants as entry
use Rattle.sheet_recalc.proofs.planning.run.Given as goal

abbrev pub invariant-loop-name : goal.invariant-loop-name
invariant-loop-name l = record {
  way : (base left : ℕ) → IsOnTheWay (outline_of l.proposed) base left l.fn.plans l.fn.meter.ticks
      → (rest : ℕ) × IsOnTheWay (outline_of l.proposed) base rest l.plans l.meter.ticks × IsPaid (outline_of l.proposed) l.fn.budget l.budget left rest l.fn.meter.ticks l.meter.ticks;
  same : l.unchanged ≡ Same;
  keys : keys_of l.plans.found.entries ≡ keys_of l.fn.plans.found.entries;
  last : IfSome l.last (λ f. entry_of (outline_of l.proposed) (get_or (keys_of l.plans.found.entries) l.plans.waiting []) ≡ Some (entry.Formula f.now));
}

abbrev pub decreases-loop-name : goal.decreases-loop-name
decreases-loop-name l = l.plans.waiting
