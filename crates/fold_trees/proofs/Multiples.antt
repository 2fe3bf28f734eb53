-- Multiples of numbers, and their order.
use borrow.Author.Differences.{up, down}
use Rattle.std.{proofs.Common.{◌≡◌, refl, ◌∙◌, ℕ, zero, suc, ◌+◌, ◌≤◌, arith, inl, inr, ◌⊎◌, ℤ, pos, negsuc, neg_ℤ, ◌*ℤ◌, ◌≤ℤ◌}, specs.Int.{int_min, int_max}, proofs.Math.Nat.{mul-le-mul_right}, proofs.lemmas.Int.{ints, clamps, by_lt_z}}

-- a positive factor keeps the order of two numbers, a negative one reverses it
up_by : (a b : ℤ) (n : ℕ) → a ≤ℤ b → (a *ℤ pos n) ≤ℤ (b *ℤ pos n)
up_by a b n h =
    let sides : up a + down b ≤ up b + down a = omega (arith, ints) in
    omega (arith, mul-le-mul_right n sides, ints)

down_by : (a b : ℤ) (n : ℕ) → a ≤ℤ b → (b *ℤ negsuc n) ≤ℤ (a *ℤ negsuc n)
down_by a b n h =
    let sides : up a + down b ≤ up b + down a = omega (arith, ints) in
    omega (arith, mul-le-mul_right (suc n) sides, ints)

-- a multiple of a number between two lies between their multiples
pub between : (a z b t : ℤ) → a ≤ℤ z → z ≤ℤ b → (int_min (a *ℤ t) (b *ℤ t) ≤ℤ (z *ℤ t)) × ((z *ℤ t) ≤ℤ int_max (a *ℤ t) (b *ℤ t))
between a z b (pos n) h k =
    let low = up_by a z n h in
    let high = up_by z b n k in
    (omega (arith, ints, clamps), omega (arith, ints, clamps))
between a z b (negsuc n) h k =
    let low = down_by a z n h in
    let high = down_by z b n k in
    (omega (arith, ints, clamps), omega (arith, ints, clamps))

-- the range of the multiples, for a range that was extended by z
pub record AreBoundsTimes (low high a b z t : ℤ) : Type 0 where
  pub least : int_min (low *ℤ t) (high *ℤ t) ≡ int_min (int_min (a *ℤ t) (b *ℤ t)) (z *ℤ t)
  pub greatest : int_max (low *ℤ t) (high *ℤ t) ≡ int_max (int_max (a *ℤ t) (b *ℤ t)) (z *ℤ t)

either_way : (a b : ℤ) → (a ≤ℤ b) ⊎ (b ≤ℤ a)
either_way a b = by_lt_z a b (λ h. inl (omega (arith, ints))) (λ h. inr (omega (arith, ints)))

pub bounds_times : (a b z t : ℤ) → a ≤ℤ b → AreBoundsTimes (int_min a z) (int_max b z) a b z t
bounds_times a b z t h = elim (either_way a z) [
  | inl above ↦ elim (either_way z b) [
    | inl below ↦
        let k = between a z b t above below in
        at a b (omega (arith, ints, clamps)) (omega (arith, ints, clamps)) (omega (arith, ints, clamps)) (omega (arith, ints, clamps))
    | inr beyond ↦
        let k = between a b z t h beyond in
        at a z (omega (arith, ints, clamps)) (omega (arith, ints, clamps)) (omega (arith, ints, clamps)) (omega (arith, ints, clamps))
  ]
  | inr under ↦ elim (either_way z b) [
    | inl below ↦
        let k = between z a b t under h in
        at z b (omega (arith, ints, clamps)) (omega (arith, ints, clamps)) (omega (arith, ints, clamps)) (omega (arith, ints, clamps))
    | inr beyond ↦
        let k = between z a z t under (omega (arith, ints)) in
        let m = between z b z t (omega (arith, ints)) beyond in
        at z z (omega (arith, ints, clamps)) (omega (arith, ints, clamps)) (omega (arith, ints, clamps)) (omega (arith, ints, clamps))
  ]
]
  where
    at : (low high : ℤ) → int_min a z ≡ low → int_max b z ≡ high
        → int_min (low *ℤ t) (high *ℤ t) ≡ int_min (int_min (a *ℤ t) (b *ℤ t)) (z *ℤ t)
        → int_max (low *ℤ t) (high *ℤ t) ≡ int_max (int_max (a *ℤ t) (b *ℤ t)) (z *ℤ t)
        → AreBoundsTimes (int_min a z) (int_max b z) a b z t
    at low high e f l g = record { least = (λ i. int_min (e i *ℤ t) (f i *ℤ t)) ∙ l; greatest = (λ i. int_max (e i *ℤ t) (f i *ℤ t)) ∙ g }

-- a factor other than 0 widens a range around 0, and reverses it if negative
pub stretched : (a b t : ℤ) → (t ≡ pos 0 → ⊥) → a ≤ℤ pos 0 → pos 0 ≤ℤ b
    → ((a *ℤ t) ≤ℤ a × b ≤ℤ (b *ℤ t)) ⊎ ((b *ℤ t) ≤ℤ neg_ℤ b × neg_ℤ a ≤ℤ (a *ℤ t))
stretched a b (pos zero) some h k = absurd (some refl)
stretched a b (pos (suc n)) some h k =
    let low = up_by a (pos 0) n h in
    let high = up_by (pos 0) b n k in
    inl (omega (arith, ints), omega (arith, ints))
stretched a b (negsuc n) some h k =
    let low = up_by a (pos 0) n h in
    let high = up_by (pos 0) b n k in
    inr (omega (arith, ints), omega (arith, ints))
