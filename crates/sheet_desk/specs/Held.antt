-- The contents of the slots of the code, in terms of the model.
use Rattle.std.{specs.Prelude.{◌≡◌, false, true, List, map, length, Option, Some, None}, specs.List.{All}, specs.Option.{option_map}}
use Rattle.sheet_recalc.{specs.Names.{SheetValue}, specs.History.{change_of}, specs.Pending.{IsPendingOn, steps_left}}
use Rattle.sheet_desk.{specs.Slots.{slot_count}, specs.Desk.{SlotValue}, specs.declared.slot.Slot.{Slot}}

-- the model of an open change
abbrev pub slot_value_of : Slot → SlotValue
slot_value_of s = record { change = change_of s.change; is_stale = s.is_stale; left = steps_left s.pending; ticks = s.pending.ticks }

-- the model of all slots
abbrev pub slot_values_of : List (Option Slot) → List (Option SlotValue)
slot_values_of slots = map (option_map slot_value_of) slots

-- a change that is not stale is pending on the current sheet
abbrev pub IsOpenOn : SheetValue → Option Slot → Type 0
IsOpenOn sheet None = Unit {0}
IsOpenOn sheet (Some s) = s.is_stale ≡ false → IsPendingOn sheet (change_of s.change) s.pending

-- there are eight slots, and each change that is not stale is pending on the current sheet
pub record AreOpenOn (sheet : SheetValue) (slots : List (Option Slot)) : Type 0 where
  pub count : length slots ≡ slot_count
  pub all : All (IsOpenOn sheet) slots

-- the slot after another change was made
abbrev pub marked : Slot → Slot
marked s = record s { is_stale = true }
