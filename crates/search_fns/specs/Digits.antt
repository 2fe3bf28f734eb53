-- The numbers in a box of an array.
use Rattle.std.specs.Prelude.{◌≡◌, ℕ, ◌<◌, pos, List, [], ◌∷◌, get_or}
use Rattle.arrays_core.{specs.declared.item.Item.TheVariants.{Num}, specs.declared.item.ItemType.TheVariants.{Nums}, specs.Arrays.{ArrayValue, item_of}}
use Rattle.index_region.specs.Boxes.{Interval, box_size, walk_at}

-- the vector of the numbers of an array in a box, in row-major order
pub record AreColumns (b : ArrayValue) (region : List Interval) (v : ArrayValue) : Type 0 where
  pub typed : v.item_type ≡ Nums
  pub shaped : v.shape ≡ box_size region ∷ []
  pub each : (j : ℕ) → j < box_size region → get_or v.items j (Num (pos 0)) ≡ item_of b (walk_at region j)
