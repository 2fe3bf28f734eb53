-- The lines of an array along an axis.
use Rattle.std.{specs.Prelude.{ℕ, List, map, insert}, specs.List.{range_with_len}}
use Rattle.arrays_core.{specs.declared.item.Item.{Item}, specs.Arrays.{ArrayValue, item_of}}
use Rattle.index_region.specs.Axes.{places_along}

-- the items along an axis at the indices of the other axes; a scalar is a line of one item
abbrev pub line : ArrayValue → ℕ → List ℕ → List Item
line a axis index = map (λ j. item_of a (insert index axis j)) (range_with_len 1 (places_along a.shape axis))
