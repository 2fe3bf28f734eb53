-- Functions whose right folds take one pass, from the first number on.
use Rattle.std.{specs.Int.{cast_signed, cast_unsigned, w64}, specs.Int.Bits.{bit_xor}, specs.Prelude.{◌≡◌, ℕ, ◌+◌, ◌*◌, ◌≤◌, ℤ, pos, neg_ℤ, ◌≤ℤ◌, ◌-ℤ◌, List, [], ◌∷◌, Bool, Result, Ok}}
use Rattle.arrays_core.specs.{declared.item.Kind.{Kind}, Limits.{most_places}}
use Rattle.item_fns.specs.Numbers.{truth}

-- at least minus the bound, and at most the bound
pub record IsNear (bound : ℕ) (z : ℤ) : Type 0 where
  pub low : neg_ℤ (pos bound) ≤ℤ z
  pub high : z ≤ℤ pos bound

-- within the bound of a sum of n numbers, each at most 2 to the power 42 from 0
abbrev pub IsSum : ℕ → ℤ → Type 0
IsSum n z = IsNear (n * 4398046511104) z

-- 0 or 1
pub record IsTruth (z : ℤ) : Type 0 where
  pub value : Bool
  pub is : z ≡ truth value

abbrev pub IsAny : ℕ → ℤ → Type 0
IsAny n z = Unit {0}

-- a with each bit of b exchanged, then the last one: equality of 0 and 1
abbrev pub int_bit_same : ℤ → ℤ → ℤ
int_bit_same a b = cast_signed w64 (bit_xor (bit_xor (cast_unsigned w64 a) (cast_unsigned w64 b)) 1)

-- on folds of near numbers, of as many numbers as an array holds, f yields the numbers of an associative function; `near n` holds of a fold of n numbers
pub record IsAtOnce (f : ℤ → ℤ → Result ℤ Kind) (plain : ℤ → ℤ → ℤ) (near : ℕ → ℤ → Type 0) : Type 0 where
  pub gives : (m n : ℕ) (a b : ℤ) → m + n ≤ most_places → near m a → near n b → f a b ≡ Ok (plain a b)
  pub keeps : (m n : ℕ) (a b : ℤ) → m + n ≤ most_places → near m a → near n b → near (m + n) (plain a b)
  pub joins : (k m n : ℕ) (a b c : ℤ) → k + m + n ≤ most_places → near k a → near m b → near n c → plain (plain a b) c ≡ plain a (plain b c)

-- x1 - x2 + x3 - ..
abbrev pub in_turn : List ℤ → ℤ
in_turn [] = pos 0
in_turn (x ∷ rest) = x -ℤ in_turn rest
