-- The reach of a change, and the origin of an error.
use Rattle.std.{specs.Prelude.{◌≡◌, ◌≢◌, ◌⊎◌, ℕ, List, Option, Some, None, Err}, specs.List.{Contains}}
use Rattle.dep_order.specs.Reachability.{Reaches}
use Rattle.apl_expr.specs.Trees.{Tree}
use Rattle.arrays_core.{specs.declared.fault.Fault.{Fault}, specs.declared.item.Kind.{Kind}, specs.declared.item.Kind.TheVariants.{Value}, specs.Outcomes.{fault}}
use Rattle.formula_core.{specs.Meaning.{eval, names_in}, specs.Changes.{cost_at}}
use Rattle.sheet_recalc.{specs.Names.{Names, Formula, binding, Refers, IsSheet}, specs.Meaning.{val}, specs.Changes.{SheetChange, Accepts}, specs.Costs.{changed_name, asked_change}}

-- q is another name, and does not reach this one
abbrev pub IsApartFrom : Names → List ℕ → List ℕ → Type 0
IsApartFrom names name q = (q ≢ name) × (Reaches (Refers names) q name → ⊥)

-- an accepted change keeps the result of each name that is apart from the changed name
abbrev pub StaysWhereUnreached : Type 0
StaysWhereUnreached = (old new : Names) (change : SheetChange) → IsSheet old → Accepts old change new →
    (q : List ℕ) → IsApartFrom old (changed_name change) q → val new q ≡ val old q

-- the formula of the name fails with this kind of error, without an origin
abbrev pub FormulaFails : Names → List ℕ → Kind → Type 0
FormulaFails names name kind = (t : Tree) × (binding names name ≡ Some (Formula t)) × (eval t (val names) ≡ Err (fault kind))

-- the error of q arises in the formula of its origin, q itself or a name that q reaches; without an origin, q is absent
abbrev pub ArisesAt : Names → List ℕ → Kind → Option (List ℕ) → Type 0
ArisesAt names q kind None = (binding names q ≡ None) × (kind ≡ Value)
ArisesAt names q kind (Some origin) = ((q ≡ origin) ⊎ Reaches (Refers names) q origin) × FormulaFails names origin kind

-- every error of a name arises in this way
abbrev pub ErrorsAriseWhereReached : Type 0
ErrorsAriseWhereReached = (names : Names) → IsSheet names → (q : List ℕ) (e : Fault) → val names q ≡ Err e → ArisesAt names q e.kind e.origin

-- in the formula of another name, a node costs nothing if each name in its tree is apart from the changed name
abbrev pub CostsNothingWhereUnreached : Type 0
CostsNothingWhereUnreached = (old new : Names) (change : SheetChange) (t : Tree) →
    ((x : List ℕ) → Contains (names_in t) x → IsApartFrom new (changed_name change) x) → cost_at (asked_change old change new) t ≡ 0
