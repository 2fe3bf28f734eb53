-- The rows and columns of two matrices in row-major order.
use Rattle.std.{proofs.Common.{◌≡◌, ℕ, zero, suc, ◌+◌, ◌-◌, ◌*◌, ◌/◌, ◌%◌, ◌<◌, ◌≤◌, inl, inr, List, length, get_or, take, drop, ap, sym, ◌∙◌, arith, ℤ, pos, Result, Ok}, proofs.lemmas.Nat.{div-mul-add, mod-mul-add, div-add-mod'}, proofs.Math.Nat.{mod-eq_of_lt}}
use Rattle.std.{proofs.lemmas.List.{get_or-take, get_or-drop, get_or_append_left, get_or-append_right, length-take, length-drop, length-append}, proofs.lemmas.Bool.{cases_lt}}
use Rattle.{arrays_core.specs.declared.item.Kind.{Kind}, reduce_fns.proofs.Firsts.{same_rules}}
use Rattle.operator_fns.{specs.declared.grid.Grid.{Grid}, specs.RowByColumn.{all_met, folded_all, cell, IsGridOf, IsPlain}, specs.RowFolds.{EndsInFolds, column_fold}, proofs.ProductSums.{row_high, in_rows}}

one_more : (r m : ℕ) → 1 ≤ r → r * m ≡ (r - 1) * m + m
one_more r m h = (let e : r ≡ r - 1 + 1 = omega arith in ap (λ n. n * m) e ∙ omega arith)

module _ (grid : Grid) (places n m : ℕ) (fits : IsGridOf grid places n m) (plain : IsPlain grid places) where
  some_rows : 1 ≤ places / grid.columns
  some_rows =
      positive (places / grid.columns) grid.columns (omega arith)
    where
      positive : (q c : ℕ) → 0 < q * c → 1 ≤ q
      positive zero c h = absurd (omega arith)
      positive (suc q) c h = omega arith

  all_rows : places ≡ places / grid.columns * grid.columns
  all_rows = let even = plain.even in let parts = div-add-mod' places grid.columns in omega arith

  pub rows_inside : places / grid.columns * grid.count ≤ n
  rows_inside =
      let q = places / grid.columns in
      let all = all_rows in
      let split = one_more q grid.columns some_rows in
      let last = (q - 1) * grid.columns + 0 in
      let d : last / grid.columns ≡ q - 1 = div-mul-add (q - 1) grid.columns 0 fits.some_columns in
      let here : (q - 1) * grid.count + (grid.count - 1) * 1 < n = rw (d, plain.rows) at (fits.rows last (omega arith) (grid.count - 1) (omega arith)) in
      let parts = one_more q grid.count some_rows in
      omega arith

  pub columns_inside : grid.count * grid.columns ≤ m
  columns_inside =
      let c = grid.columns in
      let all = all_rows in
      let split = one_more (places / c) c some_rows in
      let e : (c - 1) % c ≡ c - 1 = mod-eq_of_lt (omega arith) in
      let here : c - 1 + (grid.count - 1) * c < m = rw (e, plain.columns) at (fits.columns (c - 1) (omega arith) (grid.count - 1) (omega arith)) in
      let parts = one_more grid.count c fits.some in
      omega arith

-- the numbers at the places of the first rows
pub record AreMade (f g : ℤ → ℤ → Result ℤ Kind) (xs ys : List ℤ) (grid : Grid) (rows : ℕ) (items : List ℤ) : Type 0 where
  pub long : length items ≡ rows * grid.columns
  pub each : (place : ℕ) → place < rows * grid.columns → cell f g xs ys grid place ≡ Ok (get_or items place (pos 0))

module _ (f g : ℤ → ℤ → Result ℤ Kind) (xs ys : List ℤ) (grid : Grid) (places : ℕ) (fits : IsGridOf grid places (length xs) (length ys)) (plain : IsPlain grid places) where
  -- the number at a place of a row
  cell_there : (row column : ℕ) → row < places / grid.columns → column < grid.columns
      → cell f g xs ys grid (row * grid.columns + column)
      ≡ column_fold f g (take (row * grid.count + grid.count - row * grid.count) (drop (row * grid.count) xs)) (take (grid.count * grid.columns) ys) grid.columns column
  cell_there row column inside low =
      let place = row * grid.columns + column in
      let n = grid.count in
      let c = grid.columns in
      let d : place / c ≡ row = div-mul-add row c column low in
      let m : place % c ≡ column = mod-mul-add row c column low in
      let front : place / c * n ≡ row * n = ap (λ r. r * n) d in
      let line = row * n + n - row * n in
      let high = row_high row n (places / c) inside in
      let there = rows_inside grid places (length xs) (length ys) fits plain in
      let long : length (take line (drop (row * n) xs)) ≡ n = length-take line (drop (row * n) xs) ∙ omega (arith, length-drop (row * n) xs) in
      ap (folded_all f) (same_rules _ (λ k. g (get_or (take line (drop (row * n) xs)) k (pos 0)) (get_or (take (n * c) ys) (column + k * c) (pos 0))) n (λ k below.
      let one : k * grid.row_stride ≡ k = ap (λ s. k * s) plain.rows ∙ omega arith in
      let apart : k * grid.column_stride ≡ k * c = ap (λ s. k * s) plain.columns in
      let left : get_or xs (place / c * n + k * grid.row_stride) (pos 0) ≡ get_or (take line (drop (row * n) xs)) k (pos 0) =
      ap (λ p. get_or xs p (pos 0)) (omega arith) ∙ sym (get_or-take line (drop (row * n) xs) k (pos 0) (omega arith) ∙ get_or-drop (row * n) xs k (pos 0)) in
      let right : get_or ys (place % c + k * grid.column_stride) (pos 0) ≡ get_or (take (n * c) ys) (column + k * c) (pos 0) =
      ap (λ p. get_or ys p (pos 0)) (omega arith) ∙ sym (get_or-take (n * c) ys (column + k * c) (pos 0) (in_rows column c k n low below)) in
      cc))
      ∙ ap (λ m. folded_all f (all_met g (λ k. get_or (take line (drop (row * n) xs)) k (pos 0)) (λ k. get_or (take (n * c) ys) (column + k * c) (pos 0)) m)) (sym long)

  -- one more row
  pub row_more : (row : ℕ) (before all : List ℤ) → row < places / grid.columns → AreMade f g xs ys grid row before
      → EndsInFolds f g (take (row * grid.count + grid.count - row * grid.count) (drop (row * grid.count) xs)) (take (grid.count * grid.columns) ys) grid.columns before all
      → AreMade f g xs ys grid (row + 1) all
  row_more row before all inside made ends =
      record {
        long = ap length ends.is ∙ length-append before ends.folds ∙ (let m = made.long in let n = ends.long in omega arith);
        each = λ place below.
            elim (cases_lt place (row * grid.columns)) [
              | inl h ↦ made.each place h ∙ ap Ok (sym (ap (λ zs. get_or zs place (pos 0)) ends.is ∙ get_or_append_left before ends.folds (pos 0) place (omega (arith, made.long))))
              | inr h ↦
                  (let column = place - row * grid.columns in
                  let low : column < grid.columns = omega arith in
                  let parts : place ≡ row * grid.columns + column = omega arith in
                  ap (cell f g xs ys grid) parts
                  ∙ cell_there row column inside low
                  ∙ ends.folded.each column low
                  ∙ ap Ok (sym (ap (λ zs. get_or zs place (pos 0)) ends.is ∙ get_or-append_right before ends.folds (row * grid.columns) place (pos 0) made.long h)))
            ];
      }
