-- The entries of a sheet as names with bindings, and their results.
use Rattle.std.{specs.Prelude.{◌≡◌, ℕ, List, Some, false, Ok, map}, specs.Str.{bytes_eq}, specs.Map.{lookup}}
use Rattle.arrays_core.{specs.Arrays.{ArrayValue}, specs.Growth.{grown_by}, specs.Outcomes.{Outcome}}
use Rattle.index_region.{specs.Patches.{PatchValue, FitsPatch, patched}, specs.Tails.{TailValue, FitsTail}}
use Rattle.formula_core.{specs.Formulas.{root_result}, specs.Holdings.{adopted}, specs.Plans.{PlanValue}}
use Rattle.sheet_recalc.{specs.Meaning.{with_origin}, specs.Names.{Names, Binding, Data, Formula}, specs.declared.entry.Entry.{Entry}}
use Rattle.sheet_recalc.specs.declared.entry.Entry.TheVariants as entry

-- the binding of an entry
abbrev pub binding_of : Entry → Binding
binding_of (entry.Data a) = Data a
binding_of (entry.Formula f) = Formula f.tree

-- the result of an entry: an error that arose in its formula gets this name as its origin
abbrev pub entry_outcome : List ℕ → Entry → Outcome
entry_outcome name (entry.Data a) = Ok a
entry_outcome name (entry.Formula f) = with_origin name (root_result f.nodes)

-- the entry after it adopted a plan, if it is a formula
abbrev pub adopting : Entry → PlanValue → Entry
adopting (entry.Data a) plan = entry.Data a
adopting (entry.Formula f) plan = entry.Formula (record { tree = f.tree; is_new = false; nodes = adopted plan.changes f.nodes })

-- the patch fits the entry, if that is data
abbrev pub FitsEntry : Entry → PatchValue → Type 0
FitsEntry (entry.Data a) patch = FitsPatch a patch
FitsEntry (entry.Formula f) patch = Unit {0}

-- the entry with the patch written into it, if it is data
abbrev pub patched_entry : Entry → PatchValue → Entry
patched_entry (entry.Data a) patch = entry.Data (patched a patch)
patched_entry (entry.Formula f) patch = entry.Formula f

-- the tail fits the entry, if that is data
abbrev pub FitsBehind : Entry → TailValue → Type 0
FitsBehind (entry.Data a) tail = FitsTail a tail
FitsBehind (entry.Formula f) tail = Unit {0}

-- the entry with the tail appended, if it is data
abbrev pub grown_entry : Entry → TailValue → Entry
grown_entry (entry.Data a) tail = entry.Data (grown_by a tail.items)
grown_entry (entry.Formula f) tail = entry.Formula f

-- the name is bound to this data
abbrev pub HasData : List (List ℕ × Entry) → List ℕ → ArrayValue → Type 0
HasData entries name a = lookup (bytes_eq name) entries ≡ Some (entry.Data a)

-- the names of a sheet in their order, with their bindings
abbrev pub names_of : List (List ℕ × Entry) → Names
names_of entries = map (λ e. (e.0, binding_of e.1)) entries
