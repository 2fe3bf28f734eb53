-- The result of each name, evaluated from scratch.
use Rattle.std.specs.Prelude.{◌≡◌, ℕ, zero, suc, List, Option, Some, None, Ok, Err, length}
use Rattle.arrays_core.{specs.declared.item.Kind.TheVariants.{Value}, specs.Outcomes.{Outcome, fault}}
use Rattle.formula_core.{specs.Meaning.{eval}, specs.Outcomes.{arisen_in}}
use Rattle.sheet_recalc.specs.Names.{Names, Binding, Data, Formula, binding}

-- the result of a name's formula: an error gets its origin there
abbrev pub with_origin : List ℕ → Outcome → Outcome
with_origin name (Ok a) = Ok a
with_origin name (Err e) = Err (arisen_in name e)

-- the result of a name, given the results of the others; an absent name has VALUE ERROR
abbrev pub shown_beside : List ℕ → Option Binding → (List ℕ → Outcome) → Outcome
shown_beside name None others = Err (fault Value)
shown_beside name (Some (Data a)) others = Ok a
shown_beside name (Some (Formula t)) others = with_origin name (eval t others)

-- the result of a name, evaluated to a depth
abbrev pub val_at : ℕ → Names → List ℕ → Outcome
val_at zero names name = Err (fault Value)
val_at (suc depth) names name = shown_beside name (binding names name) (val_at depth names)

-- the result of a name from scratch: evaluated to the depth of the number of names
abbrev pub val : Names → List ℕ → Outcome
val names name = val_at (length names) names name

-- an assignment of results satisfies the sheet: each name has the result that follows from the others
abbrev pub Satisfies : Names → (List ℕ → Outcome) → Type 0
Satisfies names f = (q : List ℕ) → f q ≡ shown_beside q (binding names q) f

-- the results from scratch satisfy the sheet
abbrev pub IsSettled : Names → Type 0
IsSettled names = Satisfies names (val names)

-- the results from scratch satisfy the sheet, and no other assignment does
abbrev pub IsOnlySolution : Names → Type 0
IsOnlySolution names = Satisfies names (val names) × ((f : List ℕ → Outcome) → Satisfies names f → (q : List ℕ) → f q ≡ val names q)
