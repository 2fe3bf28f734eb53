-- The scalar functions on items: a character is a domain error, except for equality.
use Rattle.std.specs.Prelude.{◌==◌, ℤ, Bool, false, not, Result, Ok, Err}
use Rattle.arrays_core.{specs.declared.item.Item.{Item}, specs.declared.item.Item.TheVariants.{Num, Char}, specs.declared.item.Kind.{Kind}, specs.declared.item.Kind.TheVariants.{Domain}}
use Rattle.function_names.{specs.declared.scalar.Scalar1.{Scalar1}, specs.declared.scalar.Scalar2.{Scalar2}, specs.declared.scalar.Scalar2.TheVariants.{Equal, NotEqual}}
use Rattle.item_fns.specs.Numbers.{monadic_on_number, dyadic_on_numbers, truth}

-- a number as an item, or the error
abbrev pub number_item : Result ℤ Kind → Result Item Kind
number_item (Ok z) = Ok (Num z)
number_item (Err k) = Err k

abbrev pub monadic_on_item : Scalar1 → Item → Result Item Kind
monadic_on_item f (Num b) = number_item (monadic_on_number f b)
monadic_on_item f (Char b) = Err Domain

-- of the items other than two numbers, only equality is defined
abbrev pub dyadic_on_others : Scalar2 → Bool → Result Item Kind
dyadic_on_others Equal same = Ok (Num (truth same))
dyadic_on_others NotEqual same = Ok (Num (truth (not same)))
dyadic_on_others f same = Err Domain

-- a character never equals a number
abbrev pub dyadic_on_items : Scalar2 → Item → Item → Result Item Kind
dyadic_on_items f (Num a) (Num b) = number_item (dyadic_on_numbers f a b)
dyadic_on_items f (Num a) (Char b) = dyadic_on_others f false
dyadic_on_items f (Char a) (Num b) = dyadic_on_others f false
dyadic_on_items f (Char a) (Char b) = dyadic_on_others f (a == b)
