-- Arrays whose lines along an axis are kept as trees.
use Rattle.std.specs.Prelude.{◌≡◌, ℕ, suc, ◌<◌, ℤ, nat_lt, List, Bool, ◌&&◌, Option, Some, None, if◌then◌else◌, length, map, get_or, drop}
use Rattle.arrays_core.{specs.declared.item.Item.TheVariants.{Num}, specs.declared.item.ItemType.TheVariants.{Nums}, specs.declared.item.Item.{Item}, specs.Arrays.{ArrayValue, IsArray}, specs.Growth.{grown_by}, specs.Shapes.{size}}
use Rattle.function_names.{specs.declared.scalar.Scalar2.{Scalar2}, specs.Axes.{is_axis, axis_at}, specs.declared.along.Along.{Along}}
use Rattle.index_region.{specs.Arguments.{is_of_numbers}, specs.Patches.{PatchValue, patched}}
use Rattle.reduce_fns.specs.declared.reduce.Reduce.{Reduce}
use Rattle.fold_trees.{specs.FoldTrees.{has_trees}, specs.ArrayLines.{TreesValue}}

-- ---- the lines of an array

-- the length of the lines along an axis, or 0 if there is no such axis; axes count from 0
abbrev pub line_length : ℕ → List ℕ → ℕ
line_length axis shape = get_or shape axis 0

-- the distance between neighbours on a line
abbrev pub line_step : ℕ → List ℕ → ℕ
line_step axis shape = size (drop (suc axis) shape)

-- the length of the lines along the axis of the formula
abbrev pub length_along : Along → List ℕ → ℕ
length_along along shape = if is_axis (length shape) along then line_length (axis_at (length shape) along) shape else 0

-- ---- kept sums

-- an array, the function that folds its lines and the axis of the lines; axes count from 0
pub record SummedValue : Type 0 where
  pub function : Scalar2
  pub axis : ℕ
  pub array : ArrayValue

-- the longest line that folds as fast without a tree
abbrev pub most_without_tree : ℕ
most_without_tree = 3

-- a fold keeps trees if its function has parts, the array is non-empty and of numbers, and its lines are long enough
abbrev pub keeps_sums : Reduce → ArrayValue → Bool
keeps_sums r a = has_trees r.function && (is_of_numbers a.item_type && (nat_lt 0 (size a.shape) && nat_lt most_without_tree (length_along r.along a.shape)))

-- the array with its function and axis, if it keeps trees
abbrev pub summed : Reduce → ArrayValue → Option SummedValue
summed r a = if keeps_sums r a then Some (record { function = r.function; axis = axis_at (length a.shape) r.along; array = a }) else None

-- the array with a patch applied
abbrev pub patched_sums : SummedValue → PatchValue → SummedValue
patched_sums s p = record { function = s.function; axis = s.axis; array = patched s.array p }

-- the array grown by these items
abbrev pub grown_sums : SummedValue → List Item → SummedValue
grown_sums s items = record { function = s.function; axis = s.axis; array = grown_by s.array items }

-- ---- trees and their array

-- the array of this shape with these numbers
abbrev pub array_of_shape : List ℕ → List ℤ → ArrayValue
array_of_shape shape numbers = record { item_type = Nums; shape = shape; items = map (λ z. Num z) numbers }

-- the trees hold the lines of a non-empty array of numbers along an axis
pub record StandFor (t : TreesValue) (axis : ℕ) (a : ArrayValue) : Type 0 where
  pub sound : IsArray a
  pub some : 0 < size a.shape
  pub there : axis < length a.shape
  pub counted : t.count ≡ line_length axis a.shape
  pub apart : t.step ≡ line_step axis a.shape
  pub is : a ≡ array_of_shape a.shape t.numbers
