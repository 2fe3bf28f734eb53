-- The result of a function or a formula: an array, or an error with its origin, the name whose formula caused it.
use Rattle.std.specs.Prelude.{◌≡◌, None, Result, Ok, Err}
use Rattle.arrays_core.{specs.Arrays.{ArrayValue}, specs.declared.fault.ApplyFault.{ApplyFault}, specs.declared.fault.ApplyFault.TheVariants.{Kind as KindFault}, specs.declared.fault.Fault.{Fault}, specs.declared.item.Kind.{Kind}}

abbrev pub Outcome : Type 0
Outcome = Result ArrayValue Fault

-- an error without an origin
abbrev pub fault : Kind → Fault
fault kind = record { kind = kind; origin = None }

-- the result of a function: an array, or an error without an origin
abbrev pub given : Result ArrayValue Kind → Outcome
given (Ok a) = Ok a
given (Err kind) = Err (fault kind)

-- the result of a call that did not run out of memory, as an outcome
abbrev pub IsOutcomeOf : Result ArrayValue ApplyFault → Outcome → Type 0
IsOutcomeOf applied (Ok a) = applied ≡ Ok a
IsOutcomeOf applied (Err f) = (applied ≡ Err (KindFault f.kind)) × (f ≡ fault f.kind)
