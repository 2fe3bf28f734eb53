-- The sources of the items of a result.
use Rattle.std.specs.Prelude.{ℕ, zero, suc, List, unwrap_or, Result, Ok}
use Rattle.arrays_core.{specs.declared.item.Item.{Item}, specs.declared.item.ItemType.{ItemType}, specs.declared.item.Kind.{Kind}, specs.Items.{fill}, specs.Arrays.{ArrayValue, item_if_there}}

-- the source of an item: an index list of an argument (0 for the left or only one, 1 for the right), or fill
pub data Source : Type 0 where
  Place : (arg : ℕ) (at : List ℕ) → Source
  Fill : Source

-- the item of a source; the arguments are a and b
abbrev pub item_from : ArrayValue → ArrayValue → ItemType → Source → Result Item Kind
item_from a b item_type (Place zero at) = Ok (unwrap_or (item_if_there a at) (fill item_type))
item_from a b item_type (Place (suc n) at) = Ok (unwrap_or (item_if_there b at) (fill item_type))
item_from a b item_type Fill = Ok (fill item_type)
