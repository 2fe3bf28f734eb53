-- Inner products, a row of the result at a time.
use Rattle.std.specs.Prelude.{◌≡◌, ℕ, ◌+◌, ◌*◌, ◌<◌, ◌++◌, ℤ, pos, List, length, get_or, Result, Ok}
use Rattle.arrays_core.specs.declared.item.Kind.{Kind}
use Rattle.operator_fns.specs.RowByColumn.{all_met, folded_all}

-- the results of g for a number and each number of a row, without an error
pub record AreMet (g : ℤ → ℤ → Result ℤ Kind) (number : ℤ) (row met : List ℤ) : Type 0 where
  pub long : length met ≡ length row
  pub each : (column : ℕ) → column < length row → g number (get_or row column (pos 0)) ≡ Ok (get_or met column (pos 0))

-- the fold of a row with a column of consecutive rows
abbrev pub column_fold : (f g : ℤ → ℤ → Result ℤ Kind) → (row rows : List ℤ) → (columns column : ℕ) → Result ℤ Kind
column_fold f g row rows columns column = folded_all f (all_met g (λ k. get_or row k (pos 0)) (λ k. get_or rows (column + k * columns) (pos 0)) (length row))

-- the folds of a row with all columns of consecutive rows, without an error
pub record AreFolds (f g : ℤ → ℤ → Result ℤ Kind) (row rows : List ℤ) (columns : ℕ) (folds : List ℤ) : Type 0 where
  pub each : (column : ℕ) → column < columns → column_fold f g row rows columns column ≡ Ok (get_or folds column (pos 0))

-- these folds stand at the end of a list, after the numbers that it held
pub record EndsInFolds (f g : ℤ → ℤ → Result ℤ Kind) (row rows : List ℤ) (columns : ℕ) (before all : List ℤ) : Type 0 where
  pub folds : List ℤ
  pub long : length folds ≡ columns
  pub is : all ≡ before ++ folds
  pub folded : AreFolds f g row rows columns folds
