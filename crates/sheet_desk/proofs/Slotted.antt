-- Slots by their numbers and by their places, which are counted from 0.
use Rattle.std.{proofs.Common.{◌≡◌, ℕ, zero, suc, ◌+◌, ◌<◌, ℤ, pos, negsuc, Bool, true, false, List, map, length, get_or, set, Option, Some, None, is_some, refl, sym, ap, subst, ◌∙◌, add-one}, specs.Option.{option_map}, proofs.lemmas.Bool.{false≢true}, proofs.lemmas.List.{map-set}, proofs.Math.Seq.{map-set_same}}
use Rattle.std.{proofs.lemmas.Int.{to_z-of_z}, proofs.lemmas.Option.{slice_get-map, slice_get-get_or}}
use Rattle.sheet_recalc.{specs.Names.{SheetValue}, specs.History.{change_of}, specs.Pending.{steps_left}, specs.declared.pending.Pending.{Pending}}
use Rattle.sheet_desk.{specs.Slots.{slot_in, with_slot}, specs.Desk.{DeskValue, SlotValue, held_in, with_held}, specs.Held.{slot_value_of, slot_values_of}, specs.declared.slot.Slot.{Slot}}
use mir.Syntax.{w64}
use mir.Val.{to_z, of_z, SFits}

-- a property at the slot's place holds for its number
at_place : (P : ℤ → Type 0) (k : ℤ) (place : ℕ) → k ≡ pos (place + 1) → P (pos (suc place)) → P k
at_place P k place is h = subst P (ap pos (sym (add-one place)) ∙ sym is) h

pub slot_in-map : {A B : Type 0} (f : A → B) (slots : List (Option A)) (k : ℤ) → slot_in (map (option_map f) slots) k ≡ option_map (option_map f) (slot_in slots k)
slot_in-map f slots (pos zero) = refl
slot_in-map f slots (pos (suc place)) = slice_get-map (option_map f) slots place
slot_in-map f slots (negsuc n) = refl

pub with_slot-map : {A B : Type 0} (f : A → B) (slots : List (Option A)) (k : ℤ) (held : Option A) →
    map (option_map f) (with_slot slots k held) ≡ with_slot (map (option_map f) slots) k (option_map f held)
with_slot-map f slots (pos zero) held = refl
with_slot-map f slots (pos (suc place)) held = map-set (option_map f) slots place held
with_slot-map f slots (negsuc n) held = refl

-- an option that is present has a value
pub is_there : {A : Type 0} (o : Option A) → is_some o ≡ true → (x : A) × (o ≡ Some x)
is_there None h = absurd (false≢true h)
is_there (Some x) h = (x, refl)

pub is_not_there : {A : Type 0} (o : Option A) → is_some o ≡ false → o ≡ None
is_not_there None h = refl
is_not_there (Some x) h = absurd (false≢true (sym h))

-- the desk of a sheet and of slots
abbrev pub seen : SheetValue → List (Option Slot) → DeskValue
seen sheet slots = record { names = sheet.names; cost = sheet.cost; ticks = sheet.ticks; slots = slot_values_of slots }

-- the number of a call
module _ (k : ℤ) (fits : SFits w64 k) where
  number : (P : ℤ → Type 0) → P (to_z w64 (of_z w64 k)) → P k
  number P h = subst P (to_z-of_z w64 k fits) h

  module _ (slots : List (Option Slot)) where
    -- if there is no such slot, none is found
    pub none_in : slot_in slots (to_z w64 (of_z w64 k)) ≡ None → slot_in slots k ≡ None
    none_in h = number (λ (n : ℤ). slot_in slots n ≡ None) h

    module _ (place : ℕ) (found : (place < length slots) × (to_z w64 (of_z w64 k) ≡ pos (place + 1))) where
      is : k ≡ pos (place + 1)
      is = number (λ (n : ℤ). n ≡ pos (place + 1)) found.1

      -- the contents at its place
      pub slot_there : (d held : Option Slot) → get_or slots place d ≡ held → slot_in slots k ≡ Some held
      slot_there d held read = at_place (λ (n : ℤ). slot_in slots n ≡ Some held) k place is (slice_get-get_or slots place d found.0 ∙ ap Some read)

      -- the contents after a write
      pub put_there : (held : Option Slot) → set slots place held ≡ with_slot slots k held
      put_there held = at_place (λ (n : ℤ). set slots place held ≡ with_slot slots n held) k place is refl

-- the contents of a slot in the model
pub as_seen : (slots : List (Option Slot)) (k : ℤ) (held : Option (Option Slot)) → slot_in slots k ≡ held →
    slot_in (slot_values_of slots) k ≡ option_map (option_map slot_value_of) held
as_seen slots k held h = slot_in-map slot_value_of slots k ∙ ap (option_map (option_map slot_value_of)) h

-- the same for a desk
module _ (sheet : SheetValue) (slots : List (Option Slot)) (k : ℤ) (d : DeskValue) (view : seen sheet slots ≡ d) where
  pub seen_in_desk : (held : Option (Option Slot)) → slot_in slots k ≡ held → held_in d k ≡ option_map (option_map slot_value_of) held
  seen_in_desk held h = subst (λ (e : DeskValue). held_in e k ≡ option_map (option_map slot_value_of) held) view (as_seen slots k held h)

  pub put_in_desk : (held : Option Slot) → seen sheet (with_slot slots k held) ≡ with_held d k (option_map slot_value_of held)
  put_in_desk held =
      subst (λ (e : DeskValue). seen sheet (with_slot slots k held) ≡ with_held e k (option_map slot_value_of held)) view
      (ap (λ (ss : List (Option SlotValue)). record {
        names = sheet.names;
        cost = sheet.cost;
        ticks = sheet.ticks;
        slots = ss;
      }) (with_slot-map slot_value_of slots k held))

-- the number of a call belongs to a place of the slots, and this is the desk's model
pub record IsPlaced (sheet : SheetValue) (slots : List (Option Slot)) (k : ℤ) (d : DeskValue) (place : ℕ) : Type 0 where
  pub fits : SFits w64 k
  pub view : seen sheet slots ≡ d
  pub found : (place < length slots) × (to_z w64 (of_z w64 k) ≡ pos (place + 1))

module _ {sheet : SheetValue} {slots : List (Option Slot)} {k : ℤ} {d : DeskValue} {place : ℕ} (at : IsPlaced sheet slots k d place) where
  -- the contents at the place
  pub held_seen : (any held : Option Slot) → get_or slots place any ≡ held → held_in d k ≡ Some (option_map slot_value_of held)
  held_seen any held read = seen_in_desk sheet slots k d at.view (Some held) (slot_there k at.fits slots place at.found any held read)

  -- the contents after a write
  pub put_seen : (held : Option Slot) → seen sheet (set slots place held) ≡ with_held d k (option_map slot_value_of held)
  put_seen held = ap (seen sheet) (put_there k at.fits slots place at.found held) ∙ put_in_desk sheet slots k d at.view held

  -- a write of contents with the same model changes nothing
  pub put_same : (any held now : Option Slot) → get_or slots place any ≡ held → option_map slot_value_of now ≡ option_map slot_value_of held → seen sheet (set slots place now) ≡ d
  put_same any held now read same =
      ap (λ (ss : List (Option SlotValue)). record { names = sheet.names; cost = sheet.cost; ticks = sheet.ticks; slots = ss })
      (map-set_same (option_map slot_value_of) slots place now any (same ∙ sym (ap (option_map slot_value_of) read)))
      ∙ at.view

-- if there is no such slot, the model has none
pub none_seen : (sheet : SheetValue) (slots : List (Option Slot)) (k : ℤ) (d : DeskValue) → SFits w64 k → seen sheet slots ≡ d → slot_in slots (to_z w64 (of_z w64 k)) ≡ None →
    held_in d k ≡ None
none_seen sheet slots k d fits view h = seen_in_desk sheet slots k d view None (none_in k fits slots h)

-- a step changes only the number of steps left and the ticks
pub slot_after : (s : Slot) (after : Pending) (left ticks : ℕ) → s.is_stale ≡ false → steps_left after ≡ left → after.ticks ≡ ticks →
    slot_value_of (record { change = s.change; pending = after; is_stale = s.is_stale }) ≡ record {
      change = change_of s.change;
      is_stale = false;
      left = left;
      ticks = ticks;
    }
slot_after s after left ticks fresh left_is ticks_are =
    ap (λ (b : Bool). record { change = change_of s.change; is_stale = b; left = steps_left after; ticks = after.ticks }) fresh
    ∙ ap (λ (n : ℕ). record { change = change_of s.change; is_stale = false; left = n; ticks = after.ticks }) left_is
    ∙ ap (λ (n : ℕ). record { change = change_of s.change; is_stale = false; left = left; ticks = n }) ticks_are
