-- The effect of a change on a sheet, or the reason for its refusal.
use Rattle.std.specs.Prelude.{◌≡◌, ℕ, ◌<◌, ◌≤◌, ◌⊎◌, ℤ, List, [], ◌∷◌, None, Ok, Err, IsSome, length}
use Rattle.dep_order.specs.Reachability.{IsAcyclic, IsCycle}
use Rattle.apl_expr.specs.Trees.{Tree, Literal}
use Rattle.arrays_core.specs.Arrays.{ArrayValue}
use Rattle.formula_core.specs.Meaning.{eval}
use Rattle.sheet_recalc.{specs.Names.{Names, Binding, Data, Formula, binding, put, without, Refers, most_names}, specs.Meaning.{val}, specs.Cells.{cell_put}, specs.Rows.{row_put}, specs.declared.refusal.Refusal.{Refusal}}
use Rattle.sheet_recalc.specs.declared.refusal.Refusal.TheVariants as why

-- a change of a sheet
pub data SheetChange : Type 0 where
  -- bind a name to a formula
  Define : List ℕ → Tree → SheetChange
  -- bind a name to the current value of an expression
  Store : List ℕ → Tree → SheetChange
  -- bind a name to an array
  Put : List ℕ → ArrayValue → SheetChange
  -- replace one item of data
  SetCell : List ℕ → List ℤ → Literal → SheetChange
  -- append a row to data
  AddRow : List ℕ → Literal → SheetChange
  -- remove a name
  Erase : List ℕ → SheetChange

-- there is room for the name: it is present, or the sheet has fewer than its greatest number of names
abbrev pub HasRoomForName : Names → List ℕ → Type 0
HasRoomForName names name = IsSome (binding names name) ⊎ (length names < most_names)

-- the change leads from old to new
abbrev pub Accepts : Names → SheetChange → Names → Type 0
Accepts old (Define n t) new = (new ≡ put old n (Formula t)) × IsAcyclic (Refers new) × HasRoomForName old n
Accepts old (Store n t) new = (a : ArrayValue) × (eval t (val old) ≡ Ok a) × (new ≡ put old n (Data a)) × HasRoomForName old n
Accepts old (Put n a) new = (new ≡ put old n (Data a)) × HasRoomForName old n
Accepts old (SetCell n positions literal) new = (a : ArrayValue) × (cell_put (binding old n) positions literal ≡ Ok a) × (new ≡ put old n (Data a))
Accepts old (AddRow n literal) new = (a : ArrayValue) × (row_put (binding old n) literal ≡ Ok a) × (new ≡ put old n (Data a))
Accepts old (Erase n) new = IsSome (binding old n) × (new ≡ without old n)

-- a cycle of names that begins with this one: each refers to the next, the last to the first
abbrev pub IsCycleFrom : (List ℕ → List ℕ → Type 0) → List ℕ → List (List ℕ) → Type 0
IsCycleFrom Refers name [] = ⊥
IsCycleFrom Refers name (first ∷ others) = (first ≡ name) × IsCycle Refers (first ∷ others)

-- there is no room: the name is new, and the sheet has its greatest number of names
abbrev pub IsFullFor : Names → List ℕ → Type 0
IsFullFor names name = (binding names name ≡ None) × (most_names ≤ length names)

-- the reason why one name cannot change so: it would reach itself, there is no room, or memory is refused
abbrev pub CannotBecome : (old new : Names) → List ℕ → Refusal → Type 0
CannotBecome old new name (why.Cycle names) = IsCycleFrom (Refers new) name names.items
CannotBecome old new name why.SheetFull = IsAcyclic (Refers new) × IsFullFor old name
CannotBecome old new name why.NoMemory = Unit {0}
CannotBecome old new name cause = ⊥

-- the reason why the name cannot have this binding
abbrev pub CannotPut : Names → List ℕ → Binding → Refusal → Type 0
CannotPut old name b cause = CannotBecome old (put old name b) name cause

-- the change is refused for this reason, or for want of memory, which may come at any time
abbrev pub Refuses : Names → SheetChange → Refusal → Type 0
Refuses old change why.NoMemory = Unit {0}
Refuses old (SetCell n positions literal) cause = cell_put (binding old n) positions literal ≡ Err cause
Refuses old (AddRow n literal) cause = row_put (binding old n) literal ≡ Err cause
Refuses old (Define n t) cause = CannotPut old n (Formula t) cause
Refuses old (Store n t) (why.Fault e) = eval t (val old) ≡ Err e
Refuses old (Store n t) why.SheetFull = (a : ArrayValue) × (eval t (val old) ≡ Ok a) × IsFullFor old n
Refuses old (Store n t) cause = ⊥
Refuses old (Put n a) why.SheetFull = IsFullFor old n
Refuses old (Put n a) cause = ⊥
Refuses old (Erase n) why.NotFound = binding old n ≡ None
Refuses old (Erase n) cause = ⊥
