-- Arrays with a tail.
use Rattle.std.{proofs.Common.{◌≡◌, ℕ, ◌+◌, ◌-◌, ◌<◌, ◌≤◌, List, ◌++◌, length, get_or, All, Option, Box, refl, ap, ◌∙◌, sym, subst, arith}, proofs.lemmas.List.{get_or_append_left, get_or-append_right, get_or_default, length-append}}
use Rattle.arrays_core.{specs.declared.item.Item.{Item}, specs.Arrays.{ArrayValue, IsArray}, specs.declared.item.ItemType.{ItemType}, specs.Growth.{grown_by, FitsGrowth, HasRoom, IsRoomFor, RoomValue}, specs.Items.{fill, type_of}, specs.Shapes.{size, IsWithinLimits}, proofs.Growing.{grown_sound, size_longer}}
use Rattle.index_region.specs.Tails.{FitsTail, IsRoomBehind, IsTail, TailValue}

-- a tail that fits has the items of one more place, within the limits
pub grows_by : (a : ArrayValue) (t : TailValue) → FitsTail a t → IsTail t → FitsGrowth a t.items
grows_by a t fits tail = record {
  some_axis = fits.some_axis;
  within = subst IsWithinLimits fits.shaped tail.within;
  one_place = fits.one_place;
  typed = subst (λ (item_type : ItemType). All (λ x. type_of x ≡ item_type) t.items) fits.typed tail.one_type;
}

-- the memory of a tail suffices for the array that it fits
pub room_for : {A : Type 0} (a : ArrayValue) (t : TailValue) (room : Option (Box RoomValue A)) (r : RoomValue) → IsArray a → FitsTail a t
    → IsRoomBehind t.item_type (size t.shape - length t.items) (size t.shape) room
    → ((held items : ℕ) → IsRoomBehind t.item_type held items room → (r.item_type ≡ t.item_type) × HasRoom held items r.places)
    → IsRoomFor r a (length t.items)
room_for a t room r h fits behind brought =
    let places : size t.shape ≡ length a.items + length t.items = omega (arith, size_longer a.shape fits.some_axis, ap size fits.shaped, h.one_item_a_place, fits.one_place) in
    let is = brought (size t.shape - length t.items) (size t.shape) behind in
    record {
      typed = is.0 ∙ fits.typed;
      room = subst (λ (n : ℕ). HasRoom (length a.items) n r.places) places (subst (λ (n : ℕ). HasRoom n (size t.shape) r.places) (omega (arith, places)) is.1);
    }

-- an array grown by a tail is an array
pub tail_sound : (a : ArrayValue) (t : TailValue) → IsArray a → FitsTail a t → IsTail t → IsArray (grown_by a t.items)
tail_sound a t h fits tail = grown_sound a t.items h (grows_by a t fits tail)

-- the item at a place of the old array
pub item_before : (a : ArrayValue) (xs : List Item) (p : ℕ) → IsArray a → 1 ≤ p → p ≤ size a.shape → get_or a.items (p - 1) (fill a.item_type) ≡ get_or (a.items ++ xs) (p - 1) (fill a.item_type)
item_before a xs p h low high = sym (get_or_append_left a.items xs (fill a.item_type) (p - 1) (omega (arith, h.one_item_a_place)))

-- the item at a place of the tail
pub item_behind : (a : ArrayValue) (xs : List Item) (p : ℕ) (d : Item) → IsArray a → size a.shape < p → p ≤ length (a.items ++ xs) → get_or xs (p - size a.shape - 1) d ≡ get_or (a.items ++ xs) (p - 1) (fill a.item_type)
item_behind a xs p d h low high =
    let count = length-append a.items xs in
    get_or_default xs (p - size a.shape - 1) d (fill a.item_type) (omega arith)
    ∙ ap (λ (n : ℕ). get_or xs n (fill a.item_type)) (sym (omega arith))
    ∙ sym (get_or-append_right a.items xs (length a.items) (p - 1) (fill a.item_type) refl (omega arith))
