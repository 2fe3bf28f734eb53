-- The result of a name: an array, or an error with the name of the formula where it arose.
use Rattle.std.{specs.Prelude.{ℕ, List, Option, Some, None, is_some, Result, Ok, Err, if◌then◌else◌}, specs.Borrow.{Bor}}
use Rattle.arrays_core.{specs.Arrays.{ArrayValue}, specs.Outcomes.{Outcome, fault}, specs.declared.fault.Fault.{Fault}, specs.declared.item.Kind.TheVariants.{Value}}

-- a borrowed array, or an error
abbrev pub read : Result (Bor ArrayValue) Fault → Outcome
read (Ok a) = Ok a.now
read (Err e) = Err e

-- an error without an origin gets this name as its origin
abbrev pub arisen_in : List ℕ → Fault → Fault
arisen_in name e = record { kind = e.kind; origin = if is_some e.origin then e.origin else Some name }

-- the borrowed error, or VALUE ERROR if there is none
abbrev pub held_fault : Option (Bor Fault) → Fault
held_fault None = fault Value
held_fault (Some e) = e.now

-- the borrowed error; one without an origin gets the given name, if any
abbrev pub lent_fault : Option (Bor Fault) → Option (Bor (List ℕ)) → Fault
lent_fault held None = held_fault held
lent_fault held (Some name) = arisen_in name.now (held_fault held)

-- the error of a result; VALUE ERROR for an array
abbrev pub error_in : Outcome → Fault
error_in (Ok a) = fault Value
error_in (Err e) = e
