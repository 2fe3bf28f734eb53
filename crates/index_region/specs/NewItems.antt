-- New items: a single one inline, or those of an array.
use Rattle.std.specs.Prelude.{List, [], ◌∷◌}
use Rattle.arrays_core.{specs.declared.item.Item.{Item}, specs.declared.item.ItemType.{ItemType}, specs.Items.{type_of}}
use Rattle.index_region.{specs.declared.new_items.NewItems.{NewItems}, specs.declared.new_items.NewItems.TheVariants.{One, Many}}

-- the items, in row-major order
abbrev pub items_of : NewItems → List Item
items_of (One item) = item ∷ []
items_of (Many array) = array.items

-- the type of the items
abbrev pub type_of_items : NewItems → ItemType
type_of_items (One item) = type_of item
type_of_items (Many array) = array.item_type
