-- A sheet after a change: its old entries, and the next binding of one name.
use Rattle.std.{specs.Prelude.{◌≡◌, ℕ, List, [], ◌⊎◌, Bool, true, false, Option, Some, None, Ok, Err}, specs.List.{Contains}, specs.Option.{option_map}}
use Rattle.index_region.{specs.declared.delta.Delta.{Delta}, specs.declared.delta.Delta.TheVariants.{Same, Patch, Grown, Whole}}
use Rattle.change_rules.specs.Currency.{applied}
use Rattle.dep_order.{specs.Follows.{Follows}, specs.Reachability.{Reaches}}
use Rattle.arrays_core.specs.Outcomes.{Outcome}
use Rattle.formula_core.specs.Meaning.{names_in}
use Rattle.sheet_recalc.{specs.Names.{Names, Refers, rebound}, specs.Entries.{names_of, binding_of}, specs.Meaning.{val}, specs.Costs.{sheet_change, formulas_cost}, specs.Live.{entry_after}, specs.declared.entry.Entry.{Entry}, specs.declared.proposal.Proposal.{Proposal}}
use Rattle.sheet_recalc.specs.declared.proposed_sheet.ProposedSheet.{ProposedSheet}
use Rattle.formula_core.specs.Changes as formula
use Rattle.sheet_recalc.specs.declared.entry.Entry.TheVariants as entry
use Rattle.sheet_recalc.specs.declared.proposal.Proposal.TheVariants as proposed

-- the outline of a change: the old entries, a name, and its next binding
pub record Outline : Type 0 where
  pub entries : List (List ℕ × Entry)
  pub name : List ℕ
  pub proposal : Proposal

-- the outline of a borrowed sheet
abbrev pub outline_of : ProposedSheet → Outline
outline_of o = record { entries = o.entries.now.entries; name = o.name; proposal = o.proposal.now }

-- the names in a proposal
abbrev pub proposed_references : Proposal → List (List ℕ)
proposed_references (proposed.Formula f) = names_in f.tree
proposed_references (proposed.Data delta) = []
proposed_references proposed.Removed = []

-- the name will be bound to data
abbrev pub is_data : Proposal → Bool
is_data (proposed.Data delta) = true
is_data (proposed.Formula f) = false
is_data proposed.Removed = false

-- data gets new items in place, or one more row
abbrev pub is_edit : Proposal → Bool
is_edit (proposed.Data (Patch patch)) = true
is_edit (proposed.Data (Grown tail)) = true
is_edit (proposed.Data Same) = false
is_edit (proposed.Data (Whole outcome)) = false
is_edit (proposed.Formula f) = false
is_edit proposed.Removed = false

-- an array as an entry; an error has none
abbrev pub data_entry : Outcome → Option Entry
data_entry (Ok a) = Some (entry.Data a)
data_entry (Err e) = None

-- the entry that a proposal makes, given the name's result, if it makes one
abbrev pub proposed_entry : Outcome → Proposal → Option Entry
proposed_entry shown (proposed.Formula f) = Some (entry.Formula f)
proposed_entry shown (proposed.Data delta) = data_entry (applied delta shown)
proposed_entry shown proposed.Removed = None

-- the names with this one bound or removed by the proposal
abbrev pub names_with : Names → List ℕ → Proposal → Names
names_with names name proposal = rebound names name (option_map binding_of (proposed_entry (val names name) proposal))

-- the entry of the name after the change
abbrev pub own_entry : Outline → Option Entry
own_entry o = proposed_entry (val (names_of o.entries) o.name) o.proposal

-- the names after the change
abbrev pub proposed_names : Outline → Names
proposed_names o = names_with (names_of o.entries) o.name o.proposal

-- the name's own change: of data the given one, otherwise the whole
abbrev pub proposed_delta : List ℕ → Names → Proposal → Delta
proposed_delta name names (proposed.Data delta) = delta
proposed_delta name names (proposed.Formula f) = Whole (val names name)
proposed_delta name names proposed.Removed = Whole (val names name)

-- the change of every name
abbrev pub proposed_change : Outline → formula.NamesChange
proposed_change o = sheet_change (names_of o.entries) (proposed_names o) o.name (proposed_delta o.name (proposed_names o) o.proposal)

-- the cost of the change at all names
abbrev pub proposed_cost : Outline → ℕ
proposed_cost o = formulas_cost o.name (proposed_change o) (proposed_names o)

-- the entry of a name after the change
abbrev pub entry_of : Outline → List ℕ → Option Entry
entry_of o q = entry_after o.entries o.name (own_entry o) q

-- all of these reach the name, and each comes after all others that refer to it
pub record IsReaching (names : Names) (name : List ℕ) (found : List (List ℕ)) : Type 0 where
  pub named : Contains found name
  pub follows : Follows (λ a b. Refers names b a × (b ≡ name → ⊥)) (λ x. ⊥) found
  pub leads : (a : List ℕ) → Contains found a → (a ≡ name) ⊎ Reaches (Refers names) a name
