-- Every open change is marked as stale.
use Rattle.std.{proofs.Common.{◌≡◌, ℕ, zero, suc, ℤ, pos, negsuc, List, [], ◌∷◌, map, length, get_or, set, Option, Some, None, refl, sym, ap, subst, ◌∙◌, length-set}, specs.List.{All}, specs.Option.{option_map}, proofs.lemmas.Bool.{false≢true}, proofs.lemmas.List.{length-map}}
use Rattle.std.{proofs.lemmas.List.Elements.{All-get_or, All-map, All-set}, proofs.lemmas.Option.{slice_get_within, get_or_from_slice_get}}
use Rattle.sheet_recalc.specs.Names.{SheetValue}
use Rattle.sheet_desk.{specs.Slots.{slot_count, slot_in, with_slot}, specs.Desk.{SlotValue, stale}, specs.Held.{IsOpenOn, AreOpenOn, marked, slot_value_of, slot_values_of}, specs.declared.slot.Slot.{Slot}}

-- a property of all slots holds for the slot of a number
pub all_in : {A : Type 0} (P : Option A → Type 0) (slots : List (Option A)) (k : ℤ) (held : Option A) → All P slots → slot_in slots k ≡ Some held → P held
all_in P slots (pos zero) held all h = cc
all_in P slots (pos (suc place)) held all h = subst P (get_or_from_slice_get slots place held held h) (All-get_or P slots place held (slice_get_within slots place
    held h) all)
all_in P slots (negsuc n) held all h = cc

pub length-with_slot : {A : Type 0} (slots : List (Option A)) (k : ℤ) (held : Option A) → length (with_slot slots k held) ≡ length slots
length-with_slot slots (pos zero) held = refl
length-with_slot slots (pos (suc place)) held = length-set slots place held
length-with_slot slots (negsuc n) held = refl

-- a change stored in a slot is pending on the sheet, like the others
pub open_put : (sheet : SheetValue) (slots : List (Option Slot)) (place : ℕ) (held : Option Slot) → AreOpenOn sheet slots → IsOpenOn sheet held →
    AreOpenOn sheet (set slots place held)
open_put sheet slots place held all one = record { count = length-set slots place held ∙ all.count; all = All-set (IsOpenOn sheet) slots place held one all.all }

-- the model of a marked slot is stale
pub marked_seen : (slots : List (Option Slot)) → slot_values_of (map (option_map marked) slots) ≡ map (option_map stale) (slot_values_of slots)
marked_seen [] = refl
marked_seen (None ∷ slots) = ap (λ (rest : List (Option SlotValue)). None ∷ rest) (marked_seen slots)
marked_seen (Some s ∷ slots) = ap (λ (rest : List (Option SlotValue)). Some (stale (slot_value_of s)) ∷ rest) (marked_seen slots)

-- a stale change need not be pending on the sheet
open_when_marked : (sheet : SheetValue) (held : Option Slot) → IsOpenOn sheet (option_map marked held)
open_when_marked sheet None = tt
open_when_marked sheet (Some s) = λ h. absurd (false≢true (sym h))

all_marked : (sheet : SheetValue) (slots : List (Option Slot)) → All (IsOpenOn sheet) (map (option_map marked) slots)
all_marked sheet slots = All-map (IsOpenOn sheet) (option_map marked) slots (λ k d below. open_when_marked sheet (get_or slots k d))

pub open_marked : (sheet : SheetValue) (slots after : List (Option Slot)) → length slots ≡ slot_count → after ≡ map (option_map marked) slots → AreOpenOn sheet after
open_marked sheet slots after count is =
    subst (AreOpenOn sheet) (sym is) (record { count = length-map slots (option_map marked) ∙ count; all = all_marked sheet slots })
