-- Stored products are near enough to 0 that 128 bits hold the join of two.
use Rattle.std.{proofs.Common.{◌^◌, ◌≤◌, arith, ℤ, pos, neg_ℤ, ◌*ℤ◌, ◌≤ℤ◌, SFits, unsigned_abs}, specs.Int.{w64, w128}, proofs.Math.Nat.{mul-le-mul}, proofs.lemmas.Int.{ints, clamps, unsigned_abs-mul, fits_signed_from_abs}}
use Rattle.fold_trees.{specs.declared.product.Product.{Product}, specs.Products.{Products, joined_products, kept_products, TellsProducts}}

pub record AreNear (s : Products) : Type 0 where
  pub total : unsigned_abs s.total ≤ 2 ^ 63
  pub least : unsigned_abs s.least ≤ 2 ^ 63
  pub greatest : unsigned_abs s.greatest ≤ 2 ^ 63

pub are_near : (s : Product) (m : Products) → TellsProducts s m → AreNear (kept_products s)
are_near s m h =
    record { total = omega (arith, ints); least = omega (arith, ints); greatest = omega (arith, ints) }

pub near_times : (x y : ℤ) → unsigned_abs x ≤ 2 ^ 63 → unsigned_abs y ≤ 2 ^ 63 → unsigned_abs (x *ℤ y) ≤ 2 ^ 126
near_times x y h k = let size = unsigned_abs-mul x y in let most = mul-le-mul h k in omega arith

pub times_fits : (x y : ℤ) → unsigned_abs x ≤ 2 ^ 63 → unsigned_abs y ≤ 2 ^ 63 → SFits w128 (x *ℤ y)
times_fits x y h k = let most = near_times x y h k in fits_signed_from_abs w128 (x *ℤ y) (omega arith)

pub record IsWithin126 (s : Products) : Type 0 where
  pub low : neg_ℤ (pos (2 ^ 126)) ≤ℤ s.least
  pub high : s.greatest ≤ℤ pos (2 ^ 126)

pub join_within : (a b : Products) → AreNear a → AreNear b → IsWithin126 (joined_products a b)
join_within a b h k =
    let one = near_times a.least b.total h.least k.total in
    let other = near_times a.greatest b.total h.greatest k.total in
    record { low = omega (arith, ints, clamps); high = omega (arith, ints, clamps) }

-- for nearer ones 62 bits hold the join
narrow_times : (x y : ℤ) → unsigned_abs x ≤ 2147483647 → unsigned_abs y ≤ 2147483647 → unsigned_abs (x *ℤ y) ≤ 4611686014132420609
narrow_times x y h k = let size = unsigned_abs-mul x y in let most = mul-le-mul h k in omega arith

pub narrow_fits : (x y : ℤ) → unsigned_abs x ≤ 2147483647 → unsigned_abs y ≤ 2147483647 → SFits w64 (x *ℤ y)
narrow_fits x y h k = let most = narrow_times x y h k in fits_signed_from_abs w64 (x *ℤ y) (omega arith)

pub narrow_least : (a b : Products) → unsigned_abs a.least ≤ 2147483647 → unsigned_abs a.greatest ≤ 2147483647 → unsigned_abs b.total ≤ 2147483647 → unsigned_abs b.least ≤ 2147483647
    → neg_ℤ (pos 4611686014132420609) ≤ℤ (joined_products a b).least
narrow_least a b h k t l = omega (arith, narrow_times a.least b.total h t, narrow_times a.greatest b.total k t, ints, clamps)

pub narrow_greatest : (a b : Products) → unsigned_abs a.least ≤ 2147483647 → unsigned_abs a.greatest ≤ 2147483647 → unsigned_abs b.total ≤ 2147483647 → unsigned_abs b.greatest ≤ 2147483647
    → (joined_products a b).greatest ≤ℤ pos 4611686014132420609
narrow_greatest a b h k t g = omega (arith, narrow_times a.least b.total h t, narrow_times a.greatest b.total k t, ints, clamps)
