-- Inner products ∨.∧ of truth values: unions of rows.
use Rattle.std.specs.Prelude.{◌≡◌, ◌≤ℤ◌, ◌<◌, ◌+◌, ◌*◌, ◌/◌, ◌%◌, ◌++◌, ℕ, ℤ, pos, List, length, get_or, All}
use Rattle.std.specs.Int.{bit_at}
use Rattle.function_names.{specs.declared.scalar.Scalar2.{Scalar2}, specs.declared.scalar.Scalar2.TheVariants.{And, Or}}

-- 0 or 1
pub record IsTruth (z : ℤ) : Type 0 where
  pub low : pos 0 ≤ℤ z
  pub high : z ≤ℤ pos 1

-- f.g is ∨.∧, and the numbers on the left are 0 or 1
pub record AreUnions (f g : Scalar2) (xs : List ℤ) : Type 0 where
  pub fold : f ≡ Or
  pub each : g ≡ And
  pub left : All IsTruth xs

-- the bit of a column in words of 64 bits
abbrev pub bit_of : List ℕ → ℕ → ℤ
bit_of words column = pos (bit_at (get_or words (column / 64) 0) (column % 64))

-- words hold the truth values of a row
pub record HoldBitsOf (row : List ℤ) (words : List ℕ) : Type 0 where
  pub each : (column : ℕ) → column < length row → bit_of words column ≡ get_or row column (pos 0)

-- the words of a row stand at the end of a list, after the words that it held
pub record EndsInBits (row : List ℤ) (width : ℕ) (before all : List ℕ) : Type 0 where
  pub words : List ℕ
  pub long : length words ≡ width
  pub is : all ≡ before ++ words
  pub held : HoldBitsOf row words

-- a list holds the truth values of consecutive rows, each in words of its own
pub record HoldBits (rows : List ℤ) (columns width count : ℕ) (words : List ℕ) : Type 0 where
  pub each : (row column : ℕ) → row < count → column < columns → pos (bit_at (get_or words (column / 64 + row * width) 0) (column % 64)) ≡ get_or rows (column + row * columns) (pos 0)
