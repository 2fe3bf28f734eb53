-- The value of an input in contracts, and its change.
use Rattle.std.{specs.Prelude.{◌≡◌, ◌+◌, ◌≤◌, ℕ, List, [], ◌∷◌, Bool, true, false, not, Option, Some, None, Result, Ok, Err, IfOk, map}, specs.Result.{result_err}, specs.declared.alloc.AllocError.{AllocError}}
use Rattle.arrays_core.{specs.declared.fault.Fault.{Fault}, specs.Outcomes.{Outcome}}
use Rattle.index_region.{specs.declared.delta.Delta.{Delta}, specs.declared.delta.Delta.TheVariants.{Same, Patch, Grown, Whole}}
use Rattle.change_core.{specs.Meters.{ticked}, specs.RuleModels.{RuleModel}}
use Rattle.change_rules.specs.Nodes.{Argument, is_same, is_error}
use Rattle.formula_core.{specs.declared.input.Input.{Input}, specs.declared.input.Input.TheVariants.{Good, Bad}, specs.Changes.{FitsNow, arguments, operation_delta, operation_cost}}

-- its array or its error
abbrev pub shown : Input → Outcome
shown (Good array delta) = Ok array
shown (Bad fault changed) = Err fault

-- it did not change
abbrev pub stays : Input → Bool
stays (Good array delta) = is_same delta.now
stays (Bad fault changed) = not changed

-- a change of the whole, or none
abbrev pub IsAllOrNothing : Delta → Type 0
IsAllOrNothing (Patch p) = ⊥
IsAllOrNothing (Grown t) = ⊥
IsAllOrNothing _ = Unit {0}

-- the change of an array; for an error, any change of the whole or none
abbrev pub HasDelta : Delta → Input → Type 0
HasDelta d (Good array delta) = delta.now ≡ d
HasDelta d (Bad fault changed) = IsAllOrNothing d

-- the input has this value and this change; an error only tells whether it changed
pub record IsInput (now : Outcome) (d : Delta) (input : Input) : Type 0 where
  pub is : shown input ≡ now
  pub same : stays input ≡ is_same d
  pub delta : HasDelta d input

-- its change; a changed error counts as a change of the whole
abbrev pub delta_of : Input → Delta
delta_of (Good array delta) = delta.now
delta_of (Bad fault true) = Whole (Err fault)
delta_of (Bad fault false) = Same

-- the box of a patch lies in its array; an array that grew ends with its tail
abbrev pub HasFit : Input → Type 0
HasFit (Good array delta) = FitsNow delta.now (Ok array)
HasFit (Bad fault changed) = Unit {0}

-- the change of an operation by its rule, its cost, and the rise of the meter
pub record IsOperationChange (rule : RuleModel) (operands : List Input) (held : Outcome) (before after : ℕ) (r : Result (Delta × ℕ) AllocError) : Type 0 where
  pub delta : IfOk r (λ s. s.0 ≡ operation_delta rule (arguments (map shown operands)) (map delta_of operands) held)
  pub cost : IfOk r (λ s. s.1 ≡ operation_cost rule (arguments (map shown operands)) (map delta_of operands) held)
  pub ticks : after ≤ before + operation_cost rule (arguments (map shown operands)) (map delta_of operands) held
  pub least : IfOk r (λ s. is_error s.0 ≡ false → ticked before s.1 ≤ after)
  pub rises : before ≤ after

-- the change of each written position fits its value
abbrev pub AllHaveFit : List (Option Input) → Type 0
AllHaveFit [] = Unit {0}
AllHaveFit (Some input ∷ positions) = HasFit input × AllHaveFit positions
AllHaveFit (None ∷ positions) = AllHaveFit positions

-- the written positions, in their order
abbrev pub written_inputs : List (Option Input) → List Input
written_inputs [] = []
written_inputs (Some input ∷ positions) = input ∷ written_inputs positions
written_inputs (None ∷ positions) = written_inputs positions

-- the operands that are arrays, each with its change
abbrev pub arrays_among : List Input → List Argument
arrays_among [] = []
arrays_among (Good array delta ∷ inputs) = (array, delta) ∷ arrays_among inputs
arrays_among (Bad fault changed ∷ inputs) = arrays_among inputs

-- the error of the last operand that has one
abbrev pub last_error : List Input → Option Fault
last_error inputs = result_err (arguments (map shown inputs))
