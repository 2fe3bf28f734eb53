-- The parts of folds by ×.
use Rattle.std.{specs.Prelude.{◌≡◌, ◌^◌, ◌≤◌, true, ℤ, pos, ◌-ℤ◌, ◌*ℤ◌, ◌≤ℤ◌, neg_ℤ, List, [], ◌∷◌, ◌&&◌, if◌then◌else◌, Result, Ok, Err, ◌⊎◌}, specs.Int.{int_max, int_min}, specs.List.{All}}
use Rattle.arrays_core.{specs.declared.item.Kind.{Kind}, specs.declared.item.Kind.TheVariants.{Limit}}
use Rattle.item_fns.specs.Numbers.{is_number}
use Rattle.fold_trees.specs.declared.product.Product.{Product}

-- ---- the product of a list, and the range of 0 and its suffix products, with 1 for the empty suffix

pub record Products : Type 0 where
  pub total : ℤ
  pub least : ℤ
  pub greatest : ℤ

-- of the empty list
abbrev pub products_of_none : Products
products_of_none = record { total = pos 1; least = pos 0; greatest = pos 1 }

-- of a number and a list after it
abbrev pub before : ℤ → Products → Products
before z s = record { total = z *ℤ s.total; least = int_min s.least (z *ℤ s.total); greatest = int_max s.greatest (z *ℤ s.total) }

-- of a list
abbrev pub products_of : List ℤ → Products
products_of [] = products_of_none
products_of (z ∷ rest) = before z (products_of rest)

-- of two lists joined: each suffix of the earlier one continues with all of the later one
abbrev pub joined_products : (earlier later : Products) → Products
joined_products a b = record {
  total = a.total *ℤ b.total;
  least = int_min b.least (int_min (a.least *ℤ b.total) (a.greatest *ℤ b.total));
  greatest = int_max b.greatest (int_max (a.least *ℤ b.total) (a.greatest *ℤ b.total));
}

-- the product from the right by these values
abbrev pub product_told : Products → Result ℤ Kind
product_told s = if is_number s.least && is_number s.greatest then Ok s.total else Err Limit

-- total and 0 lie within the range
pub record AreOrdered (s : Products) : Type 0 where
  pub least_total : s.least ≤ℤ s.total
  pub total_greatest : s.total ≤ℤ s.greatest
  pub least_zero : s.least ≤ℤ pos 0
  pub zero_greatest : pos 0 ≤ℤ s.greatest

-- the range exceeds 64 bits, and so does the negated range; a multiple then exceeds it too, unless it is 0
pub record AreFar (s : Products) : Type 0 where
  pub as_they_are : pos (2 ^ 63) ≤ℤ int_max s.greatest (neg_ℤ s.least -ℤ pos 1)
  pub negated : pos (2 ^ 63) ≤ℤ int_max (neg_ℤ s.least) (s.greatest -ℤ pos 1)

-- ---- the stored part

-- the values that a part stores
abbrev pub kept_products : Product → Products
kept_products s = record { total = pos s.total -ℤ pos s.below; least = neg_ℤ (pos s.below); greatest = pos s.above }

-- a part stands for these values; where they are far, it stores others that are far
pub record TellsProducts (s : Product) (m : Products) : Type 0 where
  pub ordered : AreOrdered m
  pub sound : AreOrdered (kept_products s)
  pub below : s.below ≤ 2 ^ 63
  pub above : s.above ≤ 2 ^ 63
  pub is : kept_products s ≡ m ⊎ AreFar m × AreFar (kept_products s)

-- a part stands for a list of 64-bit numbers
pub record IsKeptOf (xs : List ℤ) (s : Product) : Type 0 where
  pub numbers : All (λ z. is_number z ≡ true) xs
  pub tells : TellsProducts s (products_of xs)
