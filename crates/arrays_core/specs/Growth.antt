-- Arrays that grow by one place of their first axis, and the room for that.
use Rattle.std.{specs.Prelude.{◌≡◌, ◌≤◌, ◌<◌, ◌+◌, ◌/◌, ◌⊎◌, ℕ, List, [], ◌∷◌, ◌++◌, length, drop, All}, specs.Int.{IsNextPowerOfTwo}}
use Rattle.arrays_core.{specs.declared.item.Item.{Item}, specs.declared.item.ItemType.{ItemType}, specs.Arrays.{ArrayValue}, specs.Items.{type_of}, specs.Shapes.{size, IsWithinLimits}}

-- a shape with one more place of its first axis
abbrev pub one_longer : List ℕ → List ℕ
one_longer [] = []
one_longer (n ∷ shape) = (n + 1) ∷ shape

-- the array with one more place of its first axis, and the items of that place appended
abbrev pub grown_by : ArrayValue → List Item → ArrayValue
grown_by a xs = record { item_type = a.item_type; shape = one_longer a.shape; items = a.items ++ xs }

-- the items fill one more place and have the array's type, and the longer shape is within the limits
pub record FitsGrowth (a : ArrayValue) (xs : List Item) : Type 0 where
  pub some_axis : 0 < length a.shape
  pub within : IsWithinLimits (one_longer a.shape)
  pub one_place : length xs ≡ size (drop 1 a.shape)
  pub typed : All (λ x. type_of x ≡ a.item_type) xs

-- the capacity is enough for the next power of two of the number of items
abbrev pub IsRoomy : (items capacity : ℕ) → Type 0
IsRoomy items capacity = 0 < items → (p : ℕ) → IsNextPowerOfTwo items p → p ≤ capacity

-- `items` fit in the memory of `held` items: their next power of two is not greater
pub record IsSameRoom (held items : ℕ) : Type 0 where
  pub some : 0 < held
  pub same : (p : ℕ) → IsNextPowerOfTwo items p → p / 2 < held

-- the items fit in the memory of the held ones, or this capacity is enough for all of them
abbrev pub HasRoom : (held items capacity : ℕ) → Type 0
HasRoom held items capacity = IsSameRoom held items ⊎ IsRoomy items capacity

-- memory for items of a type, and its capacity
pub record RoomValue : Type 0 where
  pub item_type : ItemType
  pub places : ℕ

-- room for the items of an array and `more` others
pub record IsRoomFor (r : RoomValue) (a : ArrayValue) (more : ℕ) : Type 0 where
  pub typed : r.item_type ≡ a.item_type
  pub room : HasRoom (length a.items) (length a.items + more) r.places
