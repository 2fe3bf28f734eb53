-- The answer of a call that had enough memory, as an outcome.
use Rattle.std.proofs.Common.{◌≡◌, ◌∙◌, List, Result, Ok, Err, sym, ap, subst}
use Rattle.arrays_core.{specs.Arrays.{ArrayValue, IsAnswerTo}, specs.Outcomes.{Outcome, fault, given, IsOutcomeOf}, specs.declared.fault.ApplyFault.{ApplyFault}, specs.declared.fault.Fault.{Fault}, specs.declared.item.Item.{Item}, specs.declared.item.ItemType.{ItemType}, specs.declared.item.Kind.{Kind}}
use Rattle.change_core.specs.Parts.{HoldsItems}

-- the outcome is the expected array or error
pub outcome_given : (wanted : Result ArrayValue Kind) (applied : Result ArrayValue ApplyFault) (o : Outcome) → IsAnswerTo wanted applied → IsOutcomeOf applied o → o ≡ given wanted
outcome_given wanted applied (Ok a) is gave = sym (ap given (subst (IsAnswerTo wanted) gave is))
outcome_given wanted applied (Err f) is gave = ap Err gave.1 ∙ sym (ap given (subst (IsAnswerTo wanted) gave.0 is))

-- an array holds the expected items, and has their type
pub array_given : (t : ItemType) (wanted : Result (List Item) Kind) (applied : Result ArrayValue ApplyFault) (o : Outcome) (a : ArrayValue)
    → HoldsItems t wanted applied → IsOutcomeOf applied o → o ≡ Ok a → (wanted ≡ Ok a.items) × (a.item_type ≡ t)
array_given t wanted applied o a holds is gave = subst (HoldsItems t wanted) (subst (IsOutcomeOf applied) gave is) holds

-- an error is the error of the expected items
pub error_given : (t : ItemType) (wanted : Result (List Item) Kind) (applied : Result ArrayValue ApplyFault) (o : Outcome) (f : Fault)
    → HoldsItems t wanted applied → IsOutcomeOf applied o → o ≡ Err f → (wanted ≡ Err f.kind) × (f ≡ fault f.kind)
error_given t wanted applied o f holds is gave =
    let told = subst (IsOutcomeOf applied) gave is in
    (subst (HoldsItems t wanted) told.0 holds, told.1)
