-- Consequences for any list of events.
use Rattle.std.{specs.Prelude.{◌≡◌, ◌≢◌, ℕ, ℤ, Bool, true, false, ◌||◌, ◌⊎◌, List, [], ◌∷◌, ◌++◌, map, Option, Some, None}, specs.Option.{option_map}}
use Rattle.apl_expr.specs.Trees.{Tree}
use Rattle.formula_core.specs.Meaning.{eval}
use Rattle.arrays_core.specs.Outcomes.{Outcome}
use Rattle.sheet_recalc.{specs.Names.{Names}, specs.Meaning.{val}, specs.Changes.{SheetChange, Accepts}, specs.Costs.{NoItemFails, changed_name, asked_change}}
use Rattle.sheet_desk.{specs.Slots.{slot_in, with_slot}, specs.Desk.{DeskValue, SlotValue, Event, Open, Commit, Drop, Plain, Show, Answer, Done, Left, Shown, Refused, held_in, IsEvent, AreEvents}}
use Rattle.sheet_recalc.specs.declared.refusal.Refusal.TheVariants as why

-- the open changes by slot
abbrev pub open_changes : List (Option SlotValue) → List (Option SheetChange)
open_changes slots = map (option_map (λ (s : SlotValue). s.change)) slots

-- the change in a slot, if there is one
abbrev pub the_change : Option (Option SheetChange) → List SheetChange
the_change None = []
the_change (Some None) = []
the_change (Some (Some change)) = change ∷ []

-- the change that an event makes, if any, with these open changes
abbrev pub made_by : List (Option SheetChange) → Event → Answer → List SheetChange
made_by opened (Commit k) Done = the_change (slot_in opened k)
made_by opened (Plain change) Done = change ∷ []
made_by opened event answer = []

-- the open changes after an event
abbrev pub opened_after : List (Option SheetChange) → Event → Answer → List (Option SheetChange)
opened_after opened (Open k change) (Left n) = with_slot opened k (Some change)
opened_after opened (Commit k) Done = with_slot opened k None
opened_after opened (Drop k) Done = with_slot opened k None
opened_after opened event answer = opened

-- the changes that events make, in their order
abbrev pub committed : List (Option SheetChange) → List Event → List Answer → List SheetChange
committed opened [] answers = []
committed opened (event ∷ events) [] = []
committed opened (event ∷ events) (answer ∷ answers) = made_by opened event answer ++ committed (opened_after opened event answer) events answers

-- these changes, one after another, lead from old to new
abbrev pub AreAccepted : Names → List SheetChange → Names → Type 0
AreAccepted old [] new = new ≡ old
AreAccepted old (change ∷ changes) new = (mid : Names) × Accepts old change mid × AreAccepted mid changes new

-- after any events the names are the result of the accepted changes, plain or committed, in their order
abbrev pub NamesAreOfChangesCommitted : Type 0
NamesAreOfChangesCommitted = (d new : DeskValue) (events : List Event) (answers : List Answer) → AreEvents d events answers new →
    AreAccepted d.names (committed (open_changes d.slots) events answers) new.names

-- an expression's shown value is its value under the names that these changes make; open changes do not matter
abbrev pub ShowsAreOfChangesCommitted : Type 0
ShowsAreOfChangesCommitted = (d mid new : DeskValue) (events : List Event) (answers : List Answer) (tree : Tree) (outcome : Outcome) (names : Names) →
    AreEvents d events answers mid → IsEvent mid (Show tree) (Shown outcome) new →
    AreAccepted d.names (committed (open_changes d.slots) events answers) names → outcome ≡ eval tree (val names)

-- the event makes a change
abbrev pub makes_change : Event → Answer → Bool
makes_change (Commit k) Done = true
makes_change (Plain change) Done = true
makes_change event answer = false

-- one of the events makes a change
abbrev pub make_change : List Event → List Answer → Bool
make_change [] answers = false
make_change (event ∷ events) [] = false
make_change (event ∷ events) (answer ∷ answers) = makes_change event answer || make_change events answers

-- the event does not empty the slot of this number
abbrev pub Keeps : ℤ → Event → Answer → Type 0
Keeps k (Commit j) Done = j ≢ k
Keeps k (Drop j) Done = j ≢ k
Keeps k event answer = Unit {0}

-- no event empties the slot of this number
abbrev pub AllKeep : ℤ → List Event → List Answer → Type 0
AllKeep k [] answers = Unit {0}
AllKeep k (event ∷ events) [] = Unit {0}
AllKeep k (event ∷ events) (answer ∷ answers) = Keeps k event answer × AllKeep k events answers

-- the slot holds this change, stale or not as given
abbrev pub HoldsStale : DeskValue → ℤ → SheetChange → Bool → Type 0
HoldsStale d k change is_stale = (s : SlotValue) × (held_in d k ≡ Some (Some s)) × (s.change ≡ change) × (s.is_stale ≡ is_stale)

-- an open change is stale if and only if another change was made after it was opened; a refused change makes none stale
abbrev pub StaleWhereChanged : Type 0
StaleWhereChanged = (d mid new : DeskValue) (k : ℤ) (change : SheetChange) (n : ℕ) (events : List Event) (answers : List Answer) →
    IsEvent d (Open k change) (Left n) mid → AreEvents mid events answers new → AllKeep k events answers → HoldsStale new k change (make_change events answers)

-- two desks after one change of these names: names and cost are equal, and the ticks too if no item of a formula fails
pub record IsSameChange (old : Names) (change : SheetChange) (a b : DeskValue) : Type 0 where
  pub names : a.names ≡ b.names
  pub cost : a.cost ≡ b.cost
  pub ticks : NoItemFails (changed_name change) (asked_change old change a.names) a.names → a.ticks ≡ b.ticks

-- a change that is opened and committed, without another change between, has the same effect as the plain change
abbrev pub OpenedIsAsPlain : Type 0
OpenedIsAsPlain = (d mid new last plain : DeskValue) (k : ℤ) (change : SheetChange) (n : ℕ) (events : List Event) (answers : List Answer) →
    IsEvent d (Open k change) (Left n) mid → AreEvents mid events answers new → AllKeep k events answers → make_change events answers ≡ false →
    IsEvent new (Commit k) Done last → IsEvent d (Plain change) Done plain → IsSameChange d.names change last plain

-- the part of an open change that answers depend on: not the number of items computed for it
abbrev pub told_of_slot : SlotValue → SheetChange × Bool × ℕ
told_of_slot s = (s.change, s.is_stale, s.left)

-- two desks that no answer distinguishes
pub record AreAlike (d e : DeskValue) : Type 0 where
  pub names : d.names ≡ e.names
  pub cost : d.cost ≡ e.cost
  pub slots : map (option_map told_of_slot) d.slots ≡ map (option_map told_of_slot) e.slots

-- a refusal that names a cycle
abbrev pub names_cycle : Answer → Bool
names_cycle (Refused (why.Cycle names)) = true
names_cycle answer = false

-- two answers are equal, except for the choice of a cycle
abbrev pub IsSameAnswer : Answer → Answer → Type 0
IsSameAnswer a b = (a ≡ b) ⊎ ((names_cycle a ≡ true) × (names_cycle b ≡ true))

-- unless memory is refused, an event on two alike desks has the same answer and leads to alike desks
abbrev pub EachEventHasOneAnswer : Type 0
EachEventHasOneAnswer = (d e d' e' : DeskValue) (event : Event) (a b : Answer) → AreAlike d e → IsEvent d event a d' → IsEvent e event b e' →
    a ≢ Refused why.NoMemory → b ≢ Refused why.NoMemory → IsSameAnswer a b × AreAlike d' e'
