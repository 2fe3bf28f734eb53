-- Folds of columns, made by rows.
use Rattle.std.specs.Prelude.{◌≡◌, ℕ, ◌<◌, ◌++◌, ℤ, pos, List, [], ◌∷◌, length, get_or, Result, Ok}
use Rattle.arrays_core.specs.declared.item.Kind.{Kind}
use Rattle.item_fns.specs.Folds.{strided, folded}

-- f of each number of a row and the one below it is, without an error, the number in `made`
pub record ArePutOver (f : ℤ → ℤ → Result ℤ Kind) (row below made : List ℤ) : Type 0 where
  pub each : (column : ℕ) → column < length row → f (get_or row column (pos 0)) (get_or below column (pos 0)) ≡ Ok (get_or made column (pos 0))

-- the fold of each column of four consecutive rows and the number below them is, without an error, the number in `made`
pub record AreFourPutOver (f : ℤ → ℤ → Result ℤ Kind) (rows below made : List ℤ) : Type 0 where
  pub each : (column : ℕ) → column < length below → folded f (strided (pos 0) rows column (length below) 4 ++ get_or below column (pos 0) ∷ []) ≡ Ok (get_or made column (pos 0))

-- the folds of the columns of `count` consecutive rows, without an error
pub record AreColumnFolds (f : ℤ → ℤ → Result ℤ Kind) (rows : List ℤ) (count : ℕ) (folds : List ℤ) : Type 0 where
  pub each : (column : ℕ) → column < length folds → folded f (strided (pos 0) rows column (length folds) count) ≡ Ok (get_or folds column (pos 0))

-- these folds stand at the end of a list, after the numbers that it held
pub record EndsInFolds (f : ℤ → ℤ → Result ℤ Kind) (rows : List ℤ) (stride count : ℕ) (before all : List ℤ) : Type 0 where
  pub folds : List ℤ
  pub long : length folds ≡ stride
  pub is : all ≡ before ++ folds
  pub folded : AreColumnFolds f rows count folds
