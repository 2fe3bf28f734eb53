-- Sums of products of small numbers.
use Rattle.std.{specs.Prelude.{◌≡◌, ℕ, ◌+◌, ◌*◌, ◌^◌, ◌<◌, ◌≤◌, ◌++◌, ℤ, pos, length, get_or, ◌+ℤ◌, ◌*ℤ◌, unsigned_abs, FitsSigned, List, map, All, Bool, true}, specs.Int.{w64}, specs.List.{range_with_len}}
use Rattle.reduce_fns.specs.Sum.{sum_of}

-- the sum of the products of the first entries of a row and a column
abbrev pub sum_of_products : (row column : ℕ → ℤ) → ℕ → ℤ
sum_of_products row column count = sum_of (map (λ k. row k *ℤ column k) (range_with_len 0 count))

-- a magnitude of at most `most`
pub record IsNoFurther (most : ℕ) (z : ℤ) : Type 0 where
  pub near : unsigned_abs z ≤ most

-- `count` products of a number of one list and a number of another have a sum within 64 bits, in any order
pub record AddUp (count : ℕ) (xs ys : List ℤ) : Type 0 where
  pub most_x : ℕ
  pub most_y : ℕ
  pub near_x : All (IsNoFurther most_x) xs
  pub near_y : All (IsNoFurther most_y) ys
  pub few : most_x * most_y * count < 2 ^ 63

-- a bound on factors: `count` products of such factors and numbers of a list have a sum within 64 bits, in any order
pub record BoundsFactors (count : ℕ) (ys : List ℤ) (bound : ℕ) (are_short : Bool) : Type 0 where
  pub most : ℕ
  pub near : All (IsNoFurther most) ys
  pub few : bound * most * count < 2 ^ 63
  pub short : are_short ≡ true → All (IsNoFurther 1073741824) ys

-- a product fits 64 bits, and so does a sum with it
pub record RowFits (factor number sum : ℤ) : Type 0 where
  pub product : FitsSigned w64 (factor *ℤ number)
  pub total : FitsSigned w64 (sum +ℤ factor *ℤ number)

-- the sums of the products of the factors with each column of consecutive rows
pub record AreSums (factors rows : List ℤ) (columns : ℕ) (sums : List ℤ) : Type 0 where
  pub each : (column : ℕ) → column < columns
      → get_or sums column (pos 0) ≡ sum_of_products (λ k. get_or factors k (pos 0)) (λ k. get_or rows (column + k * columns) (pos 0)) (length factors)

-- these sums stand at the end of a list, after the numbers that it held
pub record EndsInSums (factors rows : List ℤ) (columns : ℕ) (before all : List ℤ) : Type 0 where
  pub sums : List ℤ
  pub long : length sums ≡ columns
  pub is : all ≡ before ++ sums
  pub summed : AreSums factors rows columns sums
