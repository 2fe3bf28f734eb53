-- An array with the items of a box replaced.
use Rattle.std.{specs.Prelude.{◌≡◌, true, ℕ, length, All, List, if◌then◌else◌, map, get_or}, specs.List.{range_with_len}}
use Rattle.arrays_core.{specs.declared.item.Item.{Item}, specs.declared.item.ItemType.{ItemType}, specs.Arrays.{ArrayValue, item_of}, specs.Items.{fill, type_of}, specs.Shapes.{size, index_after}}
use Rattle.index_region.specs.Boxes.{Interval, is_within, box_offset, box_size, fits}

-- new items for the places of a box, in row-major order
pub record PatchValue : Type 0 where
  pub region : List Interval
  pub item_type : ItemType
  pub items : List Item

-- the item of a patched array at an index list
abbrev pub patched_item : ArrayValue → PatchValue → List ℕ → Item
patched_item a p index = if is_within p.region index then get_or p.items (box_offset p.region index) (fill p.item_type) else item_of a index

-- the array with the items of the box replaced
abbrev pub patched : ArrayValue → PatchValue → ArrayValue
patched a p = record {
  item_type = a.item_type;
  shape = a.shape;
  items = map (λ before. patched_item a p (index_after a.shape before)) (range_with_len 0 (size a.shape));
}

-- the invariant of patches
pub record IsPatch (p : PatchValue) : Type 0 where
  pub one_item_a_place : length p.items ≡ box_size p.region
  pub one_type : All (λ item. type_of item ≡ p.item_type) p.items

-- the box lies in the array, and the items are of its type
pub record FitsPatch (a : ArrayValue) (p : PatchValue) : Type 0 where
  pub inside : fits p.region a.shape ≡ true
  pub typed : p.item_type ≡ a.item_type
