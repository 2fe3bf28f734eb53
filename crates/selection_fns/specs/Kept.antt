-- The numbers that counts keep.
use Rattle.std.specs.Prelude.{◌≡◌, false, nat_eq, ℕ, ◌+◌, ◌<◌, ◌≤◌, ℤ, pos, unsigned_abs, List, map, length, get_or, sum}
use Rattle.arrays_core.{specs.declared.item.Item.TheVariants.{Num}, specs.declared.item.ItemType.TheVariants.{Nums}, specs.Arrays.{ArrayValue}}
use Rattle.{index_region.specs.Arguments.{numbers}, selection_fns.specs.Replicate.{IsMask, maker}}

-- the numbers at the places of the copies; `before` holds these places, counted from 0
pub record AreKept (counts numbers kept : List ℤ) : Type 0 where
  pub before : List ℕ
  pub are : kept ≡ map (λ k. get_or numbers k (pos 0)) before
  pub long : length before ≡ sum (map unsigned_abs counts)
  pub is : (i : ℕ) → i < length before → get_or before i 0 + 1 ≡ maker (map unsigned_abs counts) (i + 1)

-- the numbers that a mask keeps
pub record AreMasked (counts numbers kept : List ℤ) : Type 0 where
  pub few : length kept ≤ length counts
  pub mask : IsMask counts (length kept)
  pub are : AreKept counts numbers kept

-- the numbers of the vector b that the mask a keeps, both of one length that is not 1
pub record IsKept (a b : ArrayValue) (kept : List ℤ) : Type 0 where
  pub vector : length b.shape ≡ 1
  pub several : nat_eq (length a.items) 1 ≡ false
  pub even : length a.items ≡ length b.items
  pub all : List ℤ
  pub typed : b.item_type ≡ Nums
  pub items : b.items ≡ map (λ z. Num z) all
  pub masked : AreMasked (numbers a) all kept
