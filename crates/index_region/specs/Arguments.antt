-- Properties of arguments that checks test.
use Rattle.std.{specs.Prelude.{nat_eq, nat_le, ℤ, pos, int_le, Bool, true, false, not, ◌||◌, List, map, length}, specs.List.{list_all}}
use Rattle.arrays_core.{specs.declared.item.Item.{Item}, specs.declared.item.Item.TheVariants.{Num, Char}, specs.declared.item.ItemType.{ItemType}, specs.declared.item.ItemType.TheVariants.{Nums, Chars}, specs.Arrays.{ArrayValue}}

abbrev pub is_scalar : ArrayValue → Bool
is_scalar a = nat_eq (length a.shape) 0

-- a scalar or a vector
abbrev pub is_list : ArrayValue → Bool
is_list a = nat_le (length a.shape) 1

abbrev pub has_items : ArrayValue → Bool
has_items a = not (nat_eq (length a.items) 0)

abbrev pub has_one_item : ArrayValue → Bool
has_one_item a = nat_eq (length a.items) 1

abbrev pub is_of_numbers : ItemType → Bool
is_of_numbers Nums = true
is_of_numbers Chars = false

abbrev pub is_same_type : ItemType → ItemType → Bool
is_same_type Nums Nums = true
is_same_type Chars Chars = true
is_same_type Nums Chars = false
is_same_type Chars Nums = false

-- its items are numbers, or it has none
abbrev pub counts_as_numbers : ArrayValue → Bool
counts_as_numbers a = is_of_numbers a.item_type || not (has_items a)

abbrev pub number_of : Item → ℤ
number_of (Num z) = z
number_of (Char c) = pos 0

-- the numbers of an array in row-major order
abbrev pub numbers : ArrayValue → List ℤ
numbers a = map number_of a.items

abbrev pub none_negative : List ℤ → Bool
none_negative zs = list_all (λ z. int_le (pos 0) z) zs
