-- A pending change: computed, but not made yet.
use Rattle.std.{specs.Prelude.{◌≡◌, ◌<◌, ℕ, List, [], length, Option, Some, None, Box}, specs.Str.{bytes_eq}}
use Rattle.indexmap.specs.IndexMap.{spare}
use Rattle.dep_order.{specs.Reachability.{IsAcyclic}, specs.Room.{FindRoom, AreListsFor}, specs.Users.{HasRoomFor}}
use Rattle.change_core.specs.Meters.{ticked}
use Rattle.index_region.specs.declared.delta.Delta.TheVariants.{Whole}
use Rattle.formula_core.{specs.Meaning.{names_in}, specs.Plans.{PlanValue}}
use Rattle.sheet_recalc.{specs.Names.{Names, SheetValue, Refers, IsSheet}, specs.NameOrder.{HasOrder}, specs.Changes.{SheetChange, Accepts, Refuses, CannotBecome, HasRoomForName}, specs.Costs.{changed_name, asked_change, expression_cost}, specs.Entries.{names_of}, specs.Live.{AreRightOnceTaken, plan_in}}
use Rattle.sheet_recalc.{specs.Planning.{IsProposalAt, IsProposed, IsOnTheWay, IsPaid}, specs.ProposedSheet.{Outline, own_entry, names_with, proposed_names, proposed_change}, specs.Tables.{Tables}, specs.declared.budget.Budget.TheVariants.{One}, specs.declared.growth.Growth.{Growth}}
use Rattle.sheet_recalc.{specs.declared.pending.Pending.{Pending}, specs.declared.refusal.Refusal.{Refusal}, specs.declared.proposal.Proposal.{Proposal}}
use Rattle.sheet_recalc.specs.declared.proposal.Proposal.TheVariants as proposed

-- the outline of a change of a sheet with these tables
abbrev pub outline_at : Tables → List ℕ → Proposal → Outline
outline_at t name proposal = record { entries = t.entries.entries; name = name; proposal = proposal }

-- the outline of the pending change
abbrev pub outline_for : Tables → Pending → Outline
outline_for t p = outline_at t p.name p.proposal

-- the names after the change is made
abbrev pub names_after : Tables → Pending → Names
names_after t p = proposed_names (outline_for t p)

-- the memory that the tables lack for one more entry with these references
pub record Brings (t : Tables) (references : List (List ℕ)) (g : Growth) : Type 0 where
  pub entries : FindRoom 1 (length t.entries.entries) (spare t.entries) g.entries
  pub users : FindRoom (length g.lists.entries) (length t.users.entries) (spare t.users) g.users
  pub lists : AreListsFor bytes_eq t.users.entries references g.lists.entries

-- the tables have room for one more entry, and for one more user of each of these names
pub record NothingLacks (t : Tables) (references : List (List ℕ)) : Type 0 where
  pub entries : 0 < spare t.entries
  pub users : HasRoomFor bytes_eq t.users.entries references

-- the missing memory is allocated, or none is missing
abbrev pub IsBrought : {A : Type 0} → Tables → List (List ℕ) → Option (Box Growth A) → Type 0
IsBrought t references None = NothingLacks t references
IsBrought t references (Some b) = Brings t references b.value

-- there is room for the proposal: a formula or a whole array needs an entry
abbrev pub HasPlace : {A : Type 0} → Tables → Option (Box Growth A) → Proposal → Type 0
HasPlace t g (proposed.Formula f) = IsBrought t (names_in f.tree) g
HasPlace t g (proposed.Data (Whole r)) = IsBrought t [] g
HasPlace t g (proposed.Data delta) = Unit {0}
HasPlace t g proposed.Removed = Unit {0}

-- everything is computed for the name's next binding: the reached names, their plans, and the room
pub record IsReadyToMake {A : Type 0} (t : Tables) (name : List ℕ) (proposal : Proposal) (found : List (List ℕ × Option PlanValue)) (growth : Option (Box Growth A)) : Type 0 where
  pub planned : AreRightOnceTaken t.entries.entries name (own_entry (outline_at t name proposal)) (proposed_names (outline_at t name proposal)) (plan_in found)
  pub kept : HasOrder (proposed_names (outline_at t name proposal))
  pub sheet : IsSheet (proposed_names (outline_at t name proposal))
  pub proposal_at : IsProposalAt t.entries.entries name proposal
  pub place : HasPlace t growth proposal

-- the change is in progress; `base` was computed before it. Since the last whole step, a step that was cut off may have applied its function, whose
-- items are not counted yet
pub record IsBegunOn (t : Tables) (p : Pending) (base : ℕ) : Type 0 where
  pub proposed : IsProposed (outline_for t p)
  pub kept : HasOrder (names_after t p)
  pub sheet : IsSheet (names_after t p)
  pub place : HasPlace t p.growth p.proposal
  pub functions : ℕ
  pub way : IsOnTheWay (outline_for t p) base functions p.plans p.meter.ticks
  pub paid : IsPaid (outline_for t p) One p.budget p.left functions p.ticks p.meter.ticks
  pub end : p.left ≡ 0 → p.plans.waiting ≡ 0
  pub small : p.ticks < 18446744073709551616

-- the change is between two steps: no function is applied ahead, and the ticks are the meter's
pub record IsBetweenSteps (p : Pending) : Type 0 where
  pub whole : p.budget ≡ One
  pub counted : p.ticks ≡ p.meter.ticks

-- the number of steps left
abbrev pub steps_left : Pending → ℕ
steps_left p = p.left

-- the requested change is in progress on the current sheet
pub record IsPendingOn (s : SheetValue) (change : SheetChange) (p : Pending) : Type 0 where
  pub base : ℕ
  pub begun : IsBegunOn s.tables p base
  pub base_is : base ≡ ticked 0 (expression_cost s.names change)
  pub accepts : Accepts s.names change (names_after s.tables p)
  pub name_is : p.name ≡ changed_name change
  pub makes : proposed_change (outline_for s.tables p) ≡ asked_change s.names change (names_after s.tables p)

-- the next binding of a name is in progress, after this number of computed items
pub record IsProposedOn (s : SheetValue) (name : List ℕ) (proposal : Proposal) (spent : ℕ) (p : Pending) : Type 0 where
  pub names_are : names_of s.tables.entries.entries ≡ s.names
  pub name_is : p.name ≡ name
  pub proposal_is : p.proposal ≡ proposal
  pub begun : IsBegunOn s.tables p spent
  pub room : HasRoomForName s.names name

-- the change asks for this proposal for this name, and finding it has cost this much: it fits the entries, its pending change is the change, and
-- whatever keeps the name from it refuses the change
pub record IsProposalOf (s : SheetValue) (change : SheetChange) (name : List ℕ) (proposal : Proposal) (spent : ℕ) : Type 0 where
  pub fits : IsProposalAt s.tables.entries.entries name proposal
  pub begins : (p : Pending) → IsProposedOn s name proposal spent p → IsPendingOn s change p
  pub refuses : IsAcyclic (Refers s.names) → (cause : Refusal) → CannotBecome s.names (names_with s.names name proposal) name cause → Refuses s.names change cause
  pub spent_is : spent ≡ ticked 0 (expression_cost s.names change)
