-- The items of an array in a box.
use Rattle.std.specs.Prelude.{◌≡◌, ℕ, ◌<◌, List, length, get_or, Some}
use Rattle.arrays_core.{specs.Arrays.{ArrayValue, item_if_there}, specs.Items.{fill}}
use Rattle.index_region.specs.Boxes.{Interval, box_size, walk_at}

-- the items of an array in a box, in row-major order
pub record IsPicked (whole : ArrayValue) (region : List Interval) (a : ArrayValue) : Type 0 where
  pub typed : a.item_type ≡ whole.item_type
  pub long : length a.items ≡ box_size region
  pub each : (place : ℕ) → place < box_size region → item_if_there whole (walk_at region place) ≡ Some (get_or a.items place (fill whole.item_type))
