-- The desk: a sheet with eight slots, each for one open change that is computed step by step.
use Rattle.std.{specs.Prelude.{◌≡◌, ℕ, ◌+◌, ◌-◌, ◌<◌, ◌≤◌, ◌⊎◌, ℤ, min, eqb, true, false, Bool, List, [], ◌∷◌, map, Option, Some, None, if◌then◌else◌}, specs.Option.{option_map}}
use Rattle.apl_expr.specs.Trees.{Tree}
use Rattle.formula_core.specs.Meaning.{eval}
use Rattle.arrays_core.specs.Outcomes.{Outcome}
use Rattle.sheet_recalc.{specs.Names.{Names}, specs.Meaning.{val}, specs.Changes.{SheetChange, Accepts, Refuses}, specs.Costs.{HasCost, HasTicks, changed_name, expression_cost, IsStepCost, IsStepCount}, specs.declared.refusal.Refusal.{Refusal}}
use Rattle.sheet_recalc.specs.declared.refusal.Refusal.TheVariants.{NoMemory, Stale, NotReady, NoSlot, SlotInUse}
use Rattle.sheet_desk.specs.Slots.{slot_in, with_slot}

-- an open change: whether another change was made after it was opened, the number of steps left, and the number of items computed for it
pub record SlotValue : Type 0 where
  pub change : SheetChange
  pub is_stale : Bool
  pub left : ℕ
  pub ticks : ℕ

-- a desk: the names of its sheet, the cost and the ticks of the last change, and the slots
pub record DeskValue : Type 0 where
  pub names : Names
  pub cost : ℕ
  pub ticks : ℕ
  pub slots : List (Option SlotValue)

-- an event of a desk; it names a slot by its number
pub data Event : Type 0 where
  -- open a change in a slot
  Open : ℤ → SheetChange → Event
  -- do one step of the change in a slot
  Step : ℤ → Event
  -- make the change in a slot
  Commit : ℤ → Event
  -- drop the change in a slot
  Drop : ℤ → Event
  -- make a change at once
  Plain : SheetChange → Event
  -- evaluate an expression
  Show : Tree → Event

-- an answer: done, the number of steps left, a value, or a refusal
pub data Answer : Type 0 where
  Done : Answer
  Left : ℕ → Answer
  Shown : Outcome → Answer
  Refused : Refusal → Answer

-- the returned number of steps: at most the greatest number of 32 bits
abbrev pub steps_told : ℕ → ℕ
steps_told left = min left 4294967295

-- the contents of the slot of a number, if there is such a slot
abbrev pub held_in : DeskValue → ℤ → Option (Option SlotValue)
held_in d k = slot_in d.slots k

-- the desk with these contents in that slot
abbrev pub with_held : DeskValue → ℤ → Option SlotValue → DeskValue
with_held d k held = record { names = d.names; cost = d.cost; ticks = d.ticks; slots = with_slot d.slots k held }

-- the open change after another change was made
abbrev pub stale : SlotValue → SlotValue
stale s = record { change = s.change; is_stale = true; left = s.left; ticks = s.ticks }

-- the reason why nothing can be opened: there is no such slot, or it holds a change
abbrev pub open_refusal : Option (Option SlotValue) → Option Refusal
open_refusal None = Some NoSlot
open_refusal (Some None) = None
open_refusal (Some (Some s)) = Some SlotInUse

-- the reason why no step can be done: there is no such slot, it is empty, or its change is stale
abbrev pub step_refusal : Option (Option SlotValue) → Option Refusal
step_refusal None = Some NoSlot
step_refusal (Some None) = Some NoSlot
step_refusal (Some (Some s)) = if s.is_stale then Some Stale else None

-- the reason why a change cannot be committed: there is no such slot, it is empty, its change is stale, or else steps are left
abbrev pub commit_refusal : Option (Option SlotValue) → Option Refusal
commit_refusal None = Some NoSlot
commit_refusal (Some None) = Some NoSlot
commit_refusal (Some (Some s)) = if s.is_stale then Some Stale else if eqb s.left 0 then None else Some NotReady

-- the reason why a change cannot be dropped: there is no such slot, or it is empty
abbrev pub drop_refusal : Option (Option SlotValue) → Option Refusal
drop_refusal None = Some NoSlot
drop_refusal (Some None) = Some NoSlot
drop_refusal (Some (Some s)) = None

-- the reason why the slots refuse an event; the slots are checked first
abbrev pub slot_refusal : DeskValue → Event → Option Refusal
slot_refusal d (Open k change) = open_refusal (held_in d k)
slot_refusal d (Step k) = step_refusal (held_in d k)
slot_refusal d (Commit k) = commit_refusal (held_in d k)
slot_refusal d (Drop k) = drop_refusal (held_in d k)
slot_refusal d (Plain change) = None
slot_refusal d (Show tree) = None

-- the slot holds a change with steps left
abbrev pub HasStepsLeft : Option (Option SlotValue) → Type 0
HasStepsLeft held = (s : SlotValue) × (held ≡ Some (Some s)) × (0 < s.left)

-- an event that the slots allow is refused: the sheet refuses the change, or memory is refused. A commit, a drop and a step with none left need no
-- memory
abbrev pub RefusesThen : DeskValue → Event → Refusal → Type 0
RefusesThen d (Open k change) cause = Refuses d.names change cause
RefusesThen d (Step k) cause = HasStepsLeft (held_in d k) × (cause ≡ NoMemory)
RefusesThen d (Commit k) cause = ⊥
RefusesThen d (Drop k) cause = ⊥
RefusesThen d (Plain change) cause = Refuses d.names change cause
RefusesThen d (Show tree) cause = cause ≡ NoMemory

-- an event is refused for this reason
abbrev pub IsRefused : DeskValue → Event → Refusal → Type 0
IsRefused d event cause = (slot_refusal d event ≡ Some cause) ⊎ ((slot_refusal d event ≡ None) × RefusesThen d event cause)

-- a change is opened: the sheet accepts it and its steps are counted. Only stored data is evaluated, at most at the cost of its expression
pub record IsOpened (d : DeskValue) (k : ℤ) (change : SheetChange) (n : ℕ) (next : DeskValue) : Type 0 where
  pub empty : held_in d k ≡ Some None
  pub new : Names
  pub accepts : Accepts d.names change new
  pub left : ℕ
  pub counted : IsStepCount new (changed_name change) left
  pub told_is : n ≡ steps_told left
  pub ticks : ℕ
  pub few : ticks ≤ expression_cost d.names change
  pub next_is : next ≡ with_held d k (Some (record { change = change; is_stale = false; left = left; ticks = ticks }))

-- one step of a change is done; its ticks rise by at most the cost of one of its functions, and never fall
pub record IsOneStep (d : DeskValue) (k : ℤ) (s : SlotValue) (next : DeskValue) : Type 0 where
  pub cost : ℕ
  pub of_one : IsStepCost d.names s.change cost
  pub ticks : ℕ
  pub few : ticks ≤ s.ticks + cost
  pub rises : s.ticks ≤ ticks
  pub next_is : next ≡ with_held d k (Some (record { change = s.change; is_stale = false; left = s.left - 1; ticks = ticks }))

-- a step is done; with none left nothing happens
pub record IsStepped (d : DeskValue) (k : ℤ) (n : ℕ) (next : DeskValue) : Type 0 where
  pub slot : SlotValue
  pub held : held_in d k ≡ Some (Some slot)
  pub fresh : slot.is_stale ≡ false
  pub told_is : n ≡ steps_told (slot.left - 1)
  pub none : slot.left ≡ 0 → next ≡ d
  pub one : 0 < slot.left → IsOneStep d k slot next

-- a change is made, and every open change becomes stale
pub record IsMade (d : DeskValue) (change : SheetChange) (next : DeskValue) : Type 0 where
  pub accepts : Accepts d.names change next.names
  pub cost : HasCost d.names change next.names next.cost
  pub computed : HasTicks d.names change next.names next.ticks
  pub slots : next.slots ≡ map (option_map stale) d.slots

-- the change in a slot is made, which empties the slot; the commit computes nothing, and the items computed before are at most the cost
pub record IsCommitted (d : DeskValue) (k : ℤ) (next : DeskValue) : Type 0 where
  pub slot : SlotValue
  pub held : held_in d k ≡ Some (Some slot)
  pub fresh : slot.is_stale ≡ false
  pub ready : slot.left ≡ 0
  pub made : IsMade (with_held d k None) slot.change next
  pub ticks : next.ticks ≡ slot.ticks
  pub few : slot.ticks ≤ next.cost

-- the change in a slot is dropped
pub record IsDropped (d : DeskValue) (k : ℤ) (next : DeskValue) : Type 0 where
  pub slot : SlotValue
  pub held : held_in d k ≡ Some (Some slot)
  pub next_is : next ≡ with_held d k None

-- an event is answered Done
abbrev pub IsEventDone : DeskValue → Event → DeskValue → Type 0
IsEventDone d (Open k change) next = ⊥
IsEventDone d (Step k) next = ⊥
IsEventDone d (Commit k) next = IsCommitted d k next
IsEventDone d (Drop k) next = IsDropped d k next
IsEventDone d (Plain change) next = IsMade d change next
IsEventDone d (Show tree) next = ⊥

-- an event is answered by this number of steps
abbrev pub IsLeft : DeskValue → Event → ℕ → DeskValue → Type 0
IsLeft d (Open k change) n next = IsOpened d k change n next
IsLeft d (Step k) n next = IsStepped d k n next
IsLeft d (Commit k) n next = ⊥
IsLeft d (Drop k) n next = ⊥
IsLeft d (Plain change) n next = ⊥
IsLeft d (Show tree) n next = ⊥

-- an event is answered by this value, which depends only on the sheet
abbrev pub IsShown : DeskValue → Event → Outcome → DeskValue → Type 0
IsShown d (Open k change) outcome next = ⊥
IsShown d (Step k) outcome next = ⊥
IsShown d (Commit k) outcome next = ⊥
IsShown d (Drop k) outcome next = ⊥
IsShown d (Plain change) outcome next = ⊥
IsShown d (Show tree) outcome next = (outcome ≡ eval tree (val d.names)) × (next ≡ d)

-- an event has this answer and leads to this desk; a refusal changes nothing
abbrev pub IsEvent : DeskValue → Event → Answer → DeskValue → Type 0
IsEvent d event Done next = IsEventDone d event next
IsEvent d event (Left n) next = IsLeft d event n next
IsEvent d event (Shown outcome) next = IsShown d event outcome next
IsEvent d event (Refused cause) next = IsRefused d event cause × (next ≡ d)

-- events in order have these answers
abbrev pub AreEvents : DeskValue → List Event → List Answer → DeskValue → Type 0
AreEvents d [] [] new = new ≡ d
AreEvents d (event ∷ events) (answer ∷ answers) new = (next : DeskValue) × IsEvent d event answer next × AreEvents next events answers new
AreEvents d [] (answer ∷ answers) new = ⊥
AreEvents d (event ∷ events) [] new = ⊥
