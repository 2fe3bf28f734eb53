-- The invariant of a sheet's entries and tables.
use Rattle.std.{specs.Prelude.{◌≡◌, ◌≤◌, ℕ, List, [], ◌↔◌, ◌⊎◌, Bool, true, Option, Some, None, Ok, Vec, if◌then◌else◌}, specs.List.{Contains, IsDistinct}, specs.Str.{bytes_eq}, specs.Map.{lookup, keys_of}, specs.Option.{unwrap_or}}
use Rattle.arrays_core.specs.Outcomes.{Outcome}
use Rattle.formula_core.{specs.Formulas.{IsHeld, root_result}, specs.Plans.{PlanValue, IsPlanOf}}
use Rattle.sheet_recalc.{specs.Names.{Names, Refers, IsSheet}, specs.Meaning.{val, with_origin}, specs.NameOrder.{IsKeptOrder}, specs.Entries.{names_of, adopting}, specs.declared.entry.Entry.{Entry}}
use Rattle.dep_order.{specs.Reachability.{Reaches}, specs.Users.{Uses, EndsWith, EachFollowsUsers, HasNoEmptyBut, HasNothing}}
use Rattle.sheet_recalc.specs.declared.entry.Entry.TheVariants as entry

-- the entry has the right result, and each node of its formula has the value of its tree, with these results of the names
abbrev pub IsRightEntry : (List ℕ → Outcome) → List ℕ → Entry → Type 0
IsRightEntry names q (entry.Data a) = Ok a ≡ names q
IsRightEntry names q (entry.Formula f) = IsHeld f names × (with_origin q (root_result f.nodes) ≡ names q)

-- every entry has the name's result from scratch, and each node of a formula has the value of its tree
abbrev pub IsCurrent : List (List ℕ × Entry) → Type 0
IsCurrent entries = (q : List ℕ) (e : Entry) → lookup (bytes_eq q) entries ≡ Some e → IsRightEntry (val (names_of entries)) q e

-- the table of users has exactly the references of the names
abbrev pub TellsUsers : {S : Type 0} → Names → List (List ℕ × Vec (List ℕ) S) → Type 0
TellsUsers names users = (a b : List ℕ) → Uses bytes_eq users a b ↔ Refers names a b

-- the names have an order, the table of users is exact and has no empty list, and every entry is current
pub record IsLive {S : Type 0} (entries : List (List ℕ × Entry)) (users : List (List ℕ × Vec (List ℕ) S)) : Type 0 where
  pub sheet : IsSheet (names_of entries)
  pub order : List (List ℕ)
  pub kept : IsKeptOrder (names_of entries) order
  pub tells : TellsUsers (names_of entries) users
  pub used : HasNoEmptyBut bytes_eq users []
  pub current : IsCurrent entries

-- these are the name and all names that reach it, each once and after all that refer to it, without plans
pub record IsReach {S : Type 0} (users : List (List ℕ × Vec (List ℕ) S)) (name : List ℕ) (found : List (List ℕ × Option PlanValue)) : Type 0 where
  pub distinct : IsDistinct bytes_eq (keys_of found)
  pub closed : EachFollowsUsers bytes_eq users (keys_of found)
  pub named : Contains (keys_of found) name
  pub sound : (a : List ℕ) → Contains (keys_of found) a → (a ≡ name) ⊎ Reaches (Uses bytes_eq users) a name
  pub none : HasNothing bytes_eq found

-- the invariant of a sheet: its entries are live, and its last change has no more ticks than cost. If that was an edit of the last name in `found`,
-- these are the names that such an edit reaches
pub record IsKeptBySheet {S : Type 0} (entries : List (List ℕ × Entry)) (users : List (List ℕ × Vec (List ℕ) S)) (cost ticks : ℕ) (edited : Bool) (found : List (List ℕ × Option PlanValue)) : Type 0 where
  pub live : IsLive entries users
  pub few : ticks ≤ cost
  pub reached : edited ≡ true → (name : List ℕ) → EndsWith (keys_of found) name → IsReach users name found

-- the plan of a name, if there is one
abbrev pub plan_in : List (List ℕ × Option PlanValue) → List ℕ → Option PlanValue
plan_in found q = unwrap_or (lookup (bytes_eq q) found) None

-- the names stay and lose their plans
pub record AreEmptied (before after : List (List ℕ × Option PlanValue)) : Type 0 where
  pub names : keys_of after ≡ keys_of before
  pub none : HasNothing bytes_eq after

-- the entry is the formula of the plan
abbrev pub CanAdopt : Entry → PlanValue → Type 0
CanAdopt (entry.Data a) plan = ⊥
CanAdopt (entry.Formula f) plan = IsPlanOf f plan

-- an entry after a change: the given one for the changed name, the old one for any other
abbrev pub entry_after : List (List ℕ × Entry) → List ℕ → Option Entry → List ℕ → Option Entry
entry_after entries name own q = if bytes_eq q name then own else lookup (bytes_eq q) entries

-- the entries after a change are right as from scratch, once each formula with a plan has adopted it
pub record AreRightOnceTaken (entries : List (List ℕ × Entry)) (name : List ℕ) (own : Option Entry) (names : Names) (plans : List ℕ → Option PlanValue) : Type 0 where
  pub can : (q : List ℕ) (e : Entry) (p : PlanValue) → entry_after entries name own q ≡ Some e → plans q ≡ Some p → CanAdopt e p
  pub right : (q : List ℕ) (e : Entry) (p : PlanValue) → entry_after entries name own q ≡ Some e → plans q ≡ Some p → IsRightEntry (val names) q (adopting e p)
  pub rest : (q : List ℕ) (e : Entry) → entry_after entries name own q ≡ Some e → plans q ≡ None → IsRightEntry (val names) q e

-- plans are adopted one after another
pub record IsAdopting (names : Names) (es : List (List ℕ × Entry)) (plans : List ℕ → Option PlanValue) : Type 0 where
  pub names_are : names_of es ≡ names
  pub can : (q : List ℕ) (e : Entry) (p : PlanValue) → lookup (bytes_eq q) es ≡ Some e → plans q ≡ Some p → CanAdopt e p
  pub right : (q : List ℕ) (e : Entry) (p : PlanValue) → lookup (bytes_eq q) es ≡ Some e → plans q ≡ Some p → IsRightEntry (val names) q (adopting e p)
  pub rest : (q : List ℕ) (e : Entry) → lookup (bytes_eq q) es ≡ Some e → plans q ≡ None → IsRightEntry (val names) q e
