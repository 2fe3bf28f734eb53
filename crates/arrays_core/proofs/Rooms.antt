-- The next power of two of a number of items.
use Rattle.std.{proofs.Common.{◌≡◌, ◌≤◌, ◌<◌, ◌^◌, ℕ, inl, inr, arith}, proofs.lemmas.Bool.{cases_lt}, proofs.lemmas.Nat.{pow_pos}, proofs.Math.Nat.{two-pow-succ}, proofs.Math.Pow.{pow_mono}, specs.Int.{IsPowerOfTwo, IsNextPowerOfTwo}}
use Rattle.arrays_core.specs.Growth.{IsRoomy, IsSameRoom, HasRoom}

-- the next power of two is the least power of two that is not less
pub least : (n q p : ℕ) → IsNextPowerOfTwo n q → IsPowerOfTwo p → n ≤ p → q ≤ p
least n q p next power low =
    let k = next.0.0 in
    let j = power.0 in
    let is_q : q ≡ 2 ^ k = next.0.1 in
    let is_p : p ≡ 2 ^ j = power.1 in
    elim (cases_lt j k) [
      | inl more ↦
          omega (arith, is_q, is_p, pow_mono more, two-pow-succ j, pow_pos j, next.2, low)
      | inr less ↦
          omega (arith, is_q, is_p, pow_mono less)
    ]

-- the capacity of the next power of two is enough
pub roomy_of : (n p : ℕ) → IsNextPowerOfTwo n p → IsRoomy n p
roomy_of n p next some q other = least n q p other next.0 next.1

-- if more items fit in the same memory, both numbers have the same next power of two
pub same_next : (held items p : ℕ) → IsSameRoom held items → held ≤ items → IsNextPowerOfTwo items p → IsNextPowerOfTwo held p
same_next held items p same fewer next = (next.0, omega (arith, fewer, next.1), omega (arith, same.some, same.same p next))

-- if the memory of the fewer is too small, the new capacity is enough
pub brought : (held items p lies capacity : ℕ) → IsRoomy held lies → HasRoom held items capacity → held ≤ items → IsNextPowerOfTwo items p → 0 < items → lies < p → p ≤ capacity
brought held items p lies capacity roomy room fewer next some short = elim room [
  | inl same ↦
      absurd (omega (arith, roomy same.some p (same_next held items p same fewer next), short))
  | inr roomy ↦ roomy some p next
]

-- a larger capacity is enough too
pub larger : (items capacity more : ℕ) → IsRoomy items capacity → capacity ≤ more → IsRoomy items more
larger items capacity more lies under = λ some p next. let there = lies some p next in omega arith
