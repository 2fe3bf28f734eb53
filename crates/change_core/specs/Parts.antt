-- The items of a box of a result.
use Rattle.std.{specs.Prelude.{◌≡◌, ℕ, List, map, Result, Ok, Err}, specs.List.{range_with_len}}
use Rattle.arrays_core.{specs.declared.fault.ApplyFault.{ApplyFault}, specs.declared.fault.ApplyFault.TheVariants.{Kind as KindFault, NoMemory}, specs.declared.item.Item.{Item}, specs.declared.item.ItemType.{ItemType}, specs.declared.item.Kind.{Kind}, specs.Arrays.{ArrayValue}, specs.Items.{all_or_first_error}}
use Rattle.index_region.specs.Boxes.{Interval, box_size, walk_at}

-- the items of a box in row-major order, or the first error among them
abbrev pub items_in : (List ℕ → Result Item Kind) → List Interval → Result (List Item) Kind
items_in item region = all_or_first_error (map (λ before. item (walk_at region before)) (range_with_len 0 (box_size region)))

-- the result of a call: the wanted items as an array of this type, the wanted error, or lack of memory
abbrev pub HoldsItems : ItemType → Result (List Item) Kind → Result ArrayValue ApplyFault → Type 0
HoldsItems item_type wanted (Ok a) = (wanted ≡ Ok a.items) × (a.item_type ≡ item_type)
HoldsItems item_type wanted (Err (KindFault k)) = wanted ≡ Err k
HoldsItems item_type wanted (Err NoMemory) = Unit {0}
