-- A row of slots, numbered from 1; a slot may be empty.
use Rattle.std.specs.Prelude.{ℕ, suc, ℤ, pos, List, Option, None, slice_get, slice_set}

-- the number of slots of a desk
abbrev pub slot_count : ℕ
slot_count = 8

-- the contents of the slot of a number, if there is such a slot
abbrev pub slot_in : {A : Type 0} → List (Option A) → ℤ → Option (Option A)
slot_in slots (pos (suc place)) = slice_get slots place
slot_in slots number = None

-- the slots with these contents in the slot of a number
abbrev pub with_slot : {A : Type 0} → List (Option A) → ℤ → Option A → List (Option A)
with_slot slots (pos (suc place)) held = slice_set slots place held
with_slot slots number held = slots
