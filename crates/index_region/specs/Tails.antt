-- The growth of an array at the end of its first axis.
use Rattle.std.specs.Prelude.{◌≡◌, ◌<◌, ◌-◌, ℕ, List, Option, Some, None, Box, length, drop, All}
use Rattle.arrays_core.{specs.declared.item.Item.{Item}, specs.declared.item.ItemType.{ItemType}, specs.Arrays.{ArrayValue}, specs.Growth.{one_longer, HasRoom, IsSameRoom, RoomValue}, specs.Items.{type_of}, specs.Shapes.{size, IsWithinLimits}}

-- one more place of the first axis: its item type, the shape of the grown array, and the items of the place in row-major order
pub record TailValue : Type 0 where
  pub item_type : ItemType
  pub shape : List ℕ
  pub items : List Item

-- the invariant of tails
pub record IsTail (t : TailValue) : Type 0 where
  pub within : IsWithinLimits t.shape
  pub one_type : All (λ item. type_of item ≡ t.item_type) t.items

-- the tail fits the array: it has one place more, with items of the same type
pub record FitsTail (a : ArrayValue) (t : TailValue) : Type 0 where
  pub some_axis : 0 < length a.shape
  pub shaped : t.shape ≡ one_longer a.shape
  pub one_place : length t.items ≡ size (drop 1 a.shape)
  pub typed : t.item_type ≡ a.item_type

-- memory for items of type t, of which the array holds `held`; None if its own memory is large enough
abbrev pub IsRoomBehind : {A : Type 0} → ItemType → (held items : ℕ) → Option (Box RoomValue A) → Type 0
IsRoomBehind t held items None = IsSameRoom held items
IsRoomBehind t held items (Some b) = (b.value.item_type ≡ t) × HasRoom held items b.value.places

-- the representation of a tail: an inline shape within the limits, and memory for all items, of which `more` are new
pub record IsTailOf {A : Type 0} (capacity : ℕ) (shape : List ℕ) (item_type : ItemType) (more : ℕ) (room : Option (Box RoomValue A)) : Type 0 where
  pub inline : capacity ≡ 4
  pub within : IsWithinLimits shape
  pub behind : IsRoomBehind item_type (size shape - more) (size shape) room
