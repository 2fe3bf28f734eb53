-- Arrays that are built by appending items.
use Rattle.std.{specs.Prelude.{◌≡◌, ◌≤◌, ◌<◌, ◌+◌, ℕ, IsTrue, List, [], ◌∷◌, ◌++◌, map, length, get_or, Result, Ok}, specs.List.{range_with_len}}
use Rattle.arrays_core.{specs.declared.item.Item.{Item}, specs.declared.item.ItemType.{ItemType}, specs.Items.{all_or_first_error}, specs.Limits.{most_axes}, specs.Shapes.{is_index_of}}

-- a type, and the items so far
pub record BuilderValue : Type 0 where
  pub item_type : ItemType
  pub items : List Item

-- the values of a function at 0, 1 and so on, count of them
abbrev pub listed : {A : Type 0} → ℕ → (ℕ → A) → List A
listed count f = map f (range_with_len 0 count)

-- some items followed by the results of a function at 1 to count, or its first error
abbrev pub with_row : {A E : Type 0} → List A → (ℕ → Result A E) → ℕ → Result (List A) E
with_row items function count = all_or_first_error (map (λ x. Ok x) items ++ map function (range_with_len 1 count))

-- row is an index list of all axes of a shape but the last, which is count long, at least 1
pub record IsRowOf (shape row : List ℕ) (count : ℕ) : Type 0 where
  pub rank : length row < most_axes
  pub long : length shape ≡ length row + 1
  pub some : 0 < count
  pub whole : get_or shape (length row) 0 ≡ count
  pub places : (i : ℕ) → 1 ≤ i → i ≤ count → IsTrue (is_index_of shape (row ++ i ∷ []))
