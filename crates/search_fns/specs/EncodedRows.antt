-- The digits of numbers, a row for each radix.
use Rattle.std.specs.Prelude.{◌≡◌, ◌≤◌, ◌<◌, ℕ, ◌+◌, ◌-◌, ◌*◌, ◌^◌, ℤ, pos, List, [], ◌∷◌, length, get_or, Ok}
use Rattle.item_fns.specs.Numbers.{residue}
use Rattle.search_fns.specs.Encode.{carried, digit}

-- the digits of numbers by a radix stand at `before`, and all other items stay
pub record HasRow (radix : ℤ) (zs : List ℤ) (before : ℕ) (old new : List ℤ) : Type 0 where
  pub long : length new ≡ length old
  pub each : (j : ℕ) → j < length zs → get_or new (before + j) (pos 0) ≡ residue radix (get_or zs j (pos 0))
  pub in_front : (m : ℕ) → m < before → get_or new m (pos 0) ≡ get_or old m (pos 0)
  pub behind : (m : ℕ) → before + length zs ≤ m → get_or new m (pos 0) ≡ get_or old m (pos 0)

-- each number is replaced with the rest that a radix leaves
pub record AreCarried (radix : ℤ) (old new : List ℤ) : Type 0 where
  pub long : length new ≡ length old
  pub each : (j : ℕ) → j < length old → carried radix (get_or old j (pos 0)) ≡ Ok (get_or new j (pos 0))

-- the digits of numbers by each radix, one row after another
pub record AreDigits (radices zs digits : List ℤ) : Type 0 where
  pub long : length digits ≡ length radices * length zs
  pub each : (k j : ℕ) → k < length radices → j < length zs → digit radices (k + 1) (get_or zs j (pos 0)) ≡ Ok (get_or digits (k * length zs + j) (pos 0))

-- the first rows of those digits
pub record AreRows (radices zs : List ℤ) (rows : ℕ) (digits : List ℤ) : Type 0 where
  pub long : length digits ≡ rows * length zs
  pub each : (k j : ℕ) → k < rows → j < length zs → digit radices (k + 1) (get_or zs j (pos 0)) ≡ Ok (get_or digits (k * length zs + j) (pos 0))

-- the radices are powers of two from 2 on, and the digits by all of them take `bits` bits
abbrev pub ArePowers : List ℤ → ℕ → Type 0
ArePowers [] bits = bits ≡ 0
ArePowers (radix ∷ radices) bits = (own : ℕ) × (radix ≡ pos (2 ^ own)) × (1 ≤ own) × (own ≤ bits) × ArePowers radices (bits - own)
