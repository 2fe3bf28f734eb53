-- The lines of a box along an axis, and tables of its items.
use Rattle.std.{specs.Prelude.{◌≡◌, ℕ, ◌+◌, ◌<◌, pos, List, length, map, get_or, insert, remove, Option, Some, None, Result, Ok, Err}, specs.List.{range_with_len}}
use Rattle.arrays_core.{specs.declared.item.Item.{Item}, specs.declared.item.Item.TheVariants.{Num}, specs.declared.item.ItemType.TheVariants.{Nums}, specs.declared.item.Kind.{Kind}, specs.Items.{all_or_first_error}, specs.Arrays.{ArrayValue}}
use Rattle.index_region.specs.Boxes.{Interval, interval_length, box_size, walk_at}

-- an array of numbers, with one item for each place of a box
pub record FillsBox (region : List Interval) (a : ArrayValue) : Type 0 where
  pub typed : a.item_type ≡ Nums
  pub long : length a.items ≡ box_size region

-- a table of the items of a box holds the right item at this place
abbrev pub Holds : (List ℕ → Result Item Kind) → List Interval → ArrayValue → ℕ → Type 0
Holds item region a place = item (walk_at region place) ≡ Ok (get_or a.items place (Num (pos 0)))

-- the items of a box on the line of an index list along an axis, or the first error among them
abbrev pub line_items : (List ℕ → Result Item Kind) → List Interval → ℕ → List ℕ → Result (List Item) Kind
line_items item region axis index =
    let s = get_or region axis (0, 0) in
    all_or_first_error (map (λ before. item (insert (remove index axis) axis (s.0 + before))) (range_with_len 0 (interval_length s)))

-- a place of a box lies on the line of an index list along an axis
abbrev pub IsOnLine : List Interval → ℕ → List ℕ → ℕ → Type 0
IsOnLine region axis index place = remove (walk_at region place) axis ≡ remove index axis

-- a table holds the items of a line, or the line fails with this first error
abbrev pub LineIsIn : (List ℕ → Result Item Kind) → List Interval → ℕ → List ℕ → ArrayValue → Result (Unit {0}) Kind → Type 0
LineIsIn item region axis index a (Ok u) = (place : ℕ) → place < box_size region → IsOnLine region axis index place → Holds item region a place
LineIsIn item region axis index a (Err kind) = line_items item region axis index ≡ Err kind

-- the error common to some lines and one more, if any fails
abbrev pub IsOneError : Option Kind → Result (Unit {0}) Kind → Option Kind → Type 0
IsOneError failed (Ok u) now = now ≡ failed
IsOneError None (Err kind) now = now ≡ Some kind
IsOneError (Some other) (Err kind) now = (now ≡ Some kind) × (other ≡ kind)
