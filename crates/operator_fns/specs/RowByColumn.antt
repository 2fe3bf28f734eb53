-- Rows and columns, entry by entry.
use Rattle.std.{specs.Prelude.{◌≡◌, ℕ, ◌+◌, ◌*◌, ◌/◌, ◌%◌, ◌<◌, ◌≤◌, ℤ, pos, List, [], ◌∷◌, map, get_or, drop, if◌then◌else◌, Result, Ok, Err}, specs.List.{range_with_len}}
use Rattle.arrays_core.{specs.declared.item.Kind.{Kind}, specs.Items.{and_then}, specs.Shapes.{size}, specs.Arrays.{ArrayValue}}
use Rattle.item_fns.specs.Folds.{folded}
use Rattle.index_region.specs.Arguments.{has_one_item}
use Rattle.operator_fns.{specs.declared.row_by_column.StridedLine.{StridedLine}, specs.declared.grid.Grid.{Grid}, specs.InnerProduct.{inner_length, all_or_last_error}}

-- an entry of a line of a list
abbrev pub entry : {A : Type 0} → A → List A → StridedLine → ℕ → A
entry default xs line k = get_or xs (line.first + k * line.stride) default

-- the first `count` entries of a line lie within a list of n
abbrev pub IsInside : StridedLine → ℕ → ℕ → Type 0
IsInside line count n = (k : ℕ) → k < count → line.first + k * line.stride < n

-- the results of a function for the pairs of a row and a column
abbrev pub all_met : {A : Type 0} → (A → A → Result A Kind) → (row column : ℕ → A) → ℕ → List (Result A Kind)
all_met g row column count = map (λ k. g (row k) (column k)) (range_with_len 0 count)

-- the last error in the list, or another error if there is none
abbrev pub last_error_or : {A : Type 0} → Kind → List (Result A Kind) → Kind
last_error_or other [] = other
last_error_or other (Ok x ∷ rest) = last_error_or other rest
last_error_or other (Err e ∷ rest) = last_error_or e rest

-- the right fold of all the results, or the error of the last that fails
abbrev pub folded_all : {A : Type 0} → (A → A → Result A Kind) → List (Result A Kind) → Result A Kind
folded_all f rs = and_then (all_or_last_error rs) (folded f)

-- ---- the rows of one list of numbers and the columns of another

-- the row and the column of a place of the result
abbrev pub row_at : Grid → ℕ → StridedLine
row_at grid place = record { first = place / grid.columns * grid.count; stride = grid.row_stride }

abbrev pub column_at : Grid → ℕ → StridedLine
column_at grid place = record { first = place % grid.columns; stride = grid.column_stride }

-- the number at a place of the result
abbrev pub cell : (f g : ℤ → ℤ → Result ℤ Kind) → (xs ys : List ℤ) → Grid → ℕ → Result ℤ Kind
cell f g xs ys grid place = folded_all f (all_met g (entry (pos 0) xs (row_at grid place)) (entry (pos 0) ys (column_at grid place)) grid.count)

-- the rows and columns of all places are not empty, and lie within lists of n and m numbers
pub record IsGridOf (grid : Grid) (places n m : ℕ) : Type 0 where
  pub some_columns : 0 < grid.columns
  pub some : 1 ≤ grid.count
  pub rows : (place : ℕ) → place < places → IsInside (row_at grid place) grid.count n
  pub columns : (place : ℕ) → place < places → IsInside (column_at grid place) grid.count m

-- the layout of two arrays; a side of one item has stride 0
abbrev pub grid_of : ArrayValue → ArrayValue → Grid
grid_of a b = record {
  columns = size (drop 1 b.shape);
  count = inner_length a b;
  row_stride = if has_one_item a then 0 else 1;
  column_stride = if has_one_item b then 0 else size (drop 1 b.shape);
}

-- the lists are two matrices in row-major order, and the result has whole rows, at least one
pub record IsPlain (grid : Grid) (places : ℕ) : Type 0 where
  pub rows : grid.row_stride ≡ 1
  pub columns : grid.column_stride ≡ grid.columns
  pub even : places % grid.columns ≡ 0
  pub some : 0 < places
