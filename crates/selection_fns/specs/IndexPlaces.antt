-- The places of the items of an indexed reference, each as the number of items before it in the indexed array.
use Rattle.std.{specs.Prelude.{◌≡◌, ℕ, ◌+◌, IsTrue, List, [], ◌∷◌, ◌++◌, map, length, get_or}, specs.List.{range_with_len}}
use Rattle.arrays_core.specs.Shapes.{size, is_index_of, places_before}
use Rattle.selection_fns.{specs.declared.index_places.Row.{Row}, specs.declared.index_places.Row.TheVariants.{Run, Listed}, specs.declared.index_places.Places.{Places}, specs.Index.{Position, indexed_shape, source_index}}

-- each number of one list plus each number of another
abbrev pub sums : List ℕ → List ℕ → List ℕ
sums [] ys = []
sums (x ∷ xs) ys = map (λ y. x + y) ys ++ sums xs ys

-- the offsets of the places of a row from its head
abbrev pub row_places : Row → List ℕ
row_places (Run count) = range_with_len 0 count
row_places (Listed places) = places.items

-- the places of all rows
abbrev pub all_places : Places → List ℕ
all_places p = sums p.heads.items (row_places p.row)

-- the places of the items of an indexed reference, in row-major order of the result
pub record ArePlacesOf (axes : List ℕ) (positions : List Position) (places : List ℕ) : Type 0 where
  pub as_many : length places ≡ size (indexed_shape axes positions)
  pub is : (index : List ℕ) → IsTrue (is_index_of (indexed_shape axes positions) index)
      → get_or places (places_before (indexed_shape axes positions) index) 0 ≡ places_before axes (source_index positions index)
  pub inside : (index : List ℕ) → IsTrue (is_index_of (indexed_shape axes positions) index) → IsTrue (is_index_of axes (source_index positions index))
