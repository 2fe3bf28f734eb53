-- Equality of items.
use Rattle.std.{specs.Prelude.{pos, Bool, false, Result, Ok, Err}, specs.Ordering.{int_eq}}
use Rattle.arrays_core.{specs.declared.item.Item.{Item}, specs.declared.item.Item.TheVariants.{Num, Char}, specs.declared.item.Kind.{Kind}}
use Rattle.function_names.specs.declared.scalar.Scalar2.TheVariants.{Equal}
use Rattle.item_fns.specs.Items.{dyadic_on_items}

-- the result of a comparison is 1
abbrev pub is_1 : Result Item Kind → Bool
is_1 (Ok (Num z)) = int_eq z (pos 1)
is_1 (Ok (Char c)) = false
is_1 (Err k) = false

-- items are compared by =, so a number never equals a character
abbrev pub same_item : Item → Item → Bool
same_item x y = is_1 (dyadic_on_items Equal x y)
