-- The right fold of a list of items.
use Rattle.std.specs.Prelude.{ℤ, List, [], ◌∷◌, Option, Some, None, Result, Ok, Err}
use Rattle.arrays_core.{specs.declared.item.Item.{Item}, specs.declared.item.Item.TheVariants.{Num}, specs.declared.item.Kind.{Kind}, specs.declared.item.Kind.TheVariants.{Domain}, specs.Items.{and_then}}
use Rattle.function_names.specs.declared.scalar.Scalar2.{Scalar2}
use Rattle.item_fns.{specs.Identities.{identity_of}, specs.Items.{dyadic_on_items}}

-- the fold of no items
abbrev pub identity_item : Option ℤ → Result Item Kind
identity_item (Some z) = Ok (Num z)
identity_item None = Err Domain

-- the right fold of a list, x1 f (x2 f (..)): the identity for no items, the item itself for one; an error of the rest is the result
abbrev pub fold_right : Scalar2 → List Item → Result Item Kind
fold_right f [] = identity_item (identity_of f)
fold_right f (x ∷ []) = Ok x
fold_right f (x ∷ y ∷ rest) = and_then (fold_right f (y ∷ rest)) (dyadic_on_items f x)
