-- Inner products of numbers, from the two slices of numbers.
use Rattle.std.{proofs.Common.{◌≡◌, ◌≢◌, ℕ, zero, suc, ◌+◌, ◌-◌, ◌*◌, ◌/◌, ◌%◌, ◌<◌, ◌≤◌, Bool, true, false, cond, eqb, ◌||◌, List, [], ◌∷◌, ◌++◌, length, get_or, map, take, drop, ℤ, pos, Result, Ok, Err, refl, ap, sym, subst, ◌∙◌, arith, inl, inr}, specs.List.{range_with_len}, proofs.lemmas.Bool.Decides.{eqb_tells}}
use Rattle.arrays_core.{specs.declared.item.Item.TheVariants.{Num}, specs.declared.item.ItemType.TheVariants.{Nums}, specs.declared.item.Kind.{Kind}, specs.declared.item.Kind.TheVariants.{Length}, specs.Items.{fill, and_then}, specs.Shapes.{size, is_index_of, index_after, places_before}}
use Rattle.arrays_core.{specs.Arrays.{ArrayValue, collect}, proofs.Shapes.{places_below, factor_le}, proofs.Order.{places_before-index_after, index_after-within}}
use Rattle.function_names.specs.declared.scalar.Scalar2.{Scalar2}
use Rattle.item_fns.{specs.Numbers.{dyadic_on_numbers}, specs.Items.{dyadic_on_items, number_item}, specs.NumberLists.{number_items}, specs.Folds.{folded}, proofs.ItemFolds.{folded_numbers}, specs.RightFold.{fold_right}}
use Rattle.scalar_fns.specs.ScalarExtension.{extended}
use Rattle.index_region.{specs.Checks.{form_of, Form, whole, limited}, specs.Arguments.{has_one_item}, proofs.Passing.{gives, limited_gives}}
use Rattle.operator_fns.{specs.InnerProduct.{row_rank, row_length, column_length, inner_length, inner_form, inner_item, inner_whole, all_or_last_error}, specs.RowByColumn.{entry, all_met, folded_all, row_at, column_at, cell, IsGridOf, grid_of}, specs.Laws.JoinedIndices.{parts, size-append}}
use Rattle.operator_fns.{proofs.Joined.{number_there}, proofs.Meetings.{length-met}, specs.Laws.InnerPlaces.{extended_one, extended_many, row_place, column_place, last_axis, rank_of_rows, lengths_of}, proofs.Inners.{products_met, fold_of_some}, proofs.Outers.{as_many}}
use Rattle.reduce_fns.{proofs.Lines.{size-drop-le}, proofs.Placewise.{collected_same}}

-- ---- folds of numbers are folds of items

met_numbers : (g : Scalar2) (x y : ℕ → ℤ) (places : List ℕ)
    → map (λ k. dyadic_on_items g (Num (x k)) (Num (y k))) places ≡ map number_item (map (λ k. dyadic_on_numbers g (x k) (y k)) places)
met_numbers g x y [] = refl
met_numbers g x y (k ∷ places) = ap (λ rs. number_item (dyadic_on_numbers g (x k) (y k)) ∷ rs) (met_numbers g x y places)

all_numbers : (rs : List (Result ℤ Kind)) → all_or_last_error (map number_item rs) ≡ number_items (all_or_last_error rs)
all_numbers [] = refl
all_numbers (r ∷ rs) = ap (λ rest. and_then rest (λ items. and_then (number_item r) (λ item. Ok (item ∷ items)))) (all_numbers rs) ∙ moved (all_or_last_error rs) r
  where
    moved : (rest : Result (List ℤ) Kind) (r : Result ℤ Kind)
        → and_then (number_items rest) (λ items. and_then (number_item r) (λ item. Ok (item ∷ items))) ≡ number_items (and_then rest (λ zs. and_then r (λ z. Ok (z ∷ zs))))
    moved (Ok zs) (Ok z) = refl
    moved (Ok zs) (Err e) = refl
    moved (Err e) r = refl

fold_of_numbers : (f g : Scalar2) (x y : ℕ → ℤ) (count : ℕ)
    → folded_all (dyadic_on_items f) (all_met (dyadic_on_items g) (λ k. Num (x k)) (λ k. Num (y k)) count) ≡ number_item (folded_all (dyadic_on_numbers f) (all_met (dyadic_on_numbers g) x y count))
fold_of_numbers f g x y count =
    let rs = all_met (dyadic_on_numbers g) x y count in
    ap (folded_all (dyadic_on_items f)) (met_numbers g x y (range_with_len 0 count))
    ∙ ap (λ r. and_then r (folded (dyadic_on_items f))) (all_numbers rs)
    ∙ moved (all_or_last_error rs)
  where
    moved : (r : Result (List ℤ) Kind) → and_then (number_items r) (folded (dyadic_on_items f)) ≡ number_item (and_then r (folded (dyadic_on_numbers f)))
    moved (Ok zs) = folded_numbers f zs
    moved (Err e) = refl

-- ---- sizes

axis_some : (shape : List ℕ) (k : ℕ) → 0 < size shape → 1 ≤ get_or shape k 1
axis_some [] k h = omega arith
axis_some (zero ∷ shape) k h = absurd (omega arith)
axis_some (suc n ∷ shape) zero h = omega arith
axis_some (suc n ∷ shape) (suc k) h = axis_some shape k (rest_some (size shape) h)
  where
    rest_some : (s : ℕ) → 0 < suc n * s → 0 < s
    rest_some zero e = absurd (omega arith)
    rest_some (suc s) e = omega arith

-- an array of one item has one row
one_row : (shape : List ℕ) → size shape ≡ 1 → size (take (length shape - 1) shape) ≤ 1
one_row [] h = omega arith
one_row (n ∷ shape) h =
    let k = length (n ∷ shape) - 1 in
    let whole : size (take k (n ∷ shape)) * size (get_or (n ∷ shape) k 1 ∷ []) ≡ 1 =
    sym (size-append (take k (n ∷ shape)) (get_or (n ∷ shape) k 1 ∷ [])) ∙ ap size (sym (last_axis (n ∷ shape) (omega arith))) ∙ h in
    factor_le _ _ 1 whole (omega arith)

-- ---- entries of a row and of a column

-- an entry of a row or of a column lies in the list, and is the right item
record Entry (a : ArrayValue) (xs : List ℤ) (index : List ℕ) (place : ℕ) : Type 0 where
  there : place < length xs
  is : Num (get_or xs place (pos 0)) ≡ extended a index

-- the entry of an array of one item, and of any other
entry_at : (a : ArrayValue) (xs : List ℤ) → length a.items ≡ size a.shape → a.items ≡ map (λ z. Num z) xs → 0 < length xs
    → (index : List ℕ) (place : Bool → ℕ) → (size a.shape ≡ 1 → place true ≡ 0)
    → (length a.items ≢ 1 → size a.shape ≢ 1 → (place false ≡ places_before a.shape index) × (places_before a.shape index < size a.shape))
    → Entry a xs index (place (eqb (length a.items) 1))
entry_at a xs long is_a some index place at_one at_many =
    elim (eqb_tells (length a.items) 1) [
      | inl one ↦
          let single : size a.shape ≡ 1 = omega (arith, one.1, long) in
          subst (λ w. Entry a xs index (place w)) (sym one.0)
          (rw (at_one single) (record { there = some; is = sym (number_there a.items xs 0 (fill a.item_type) is_a some) ∙ sym (extended_one a index single) }))
      | inr several ↦
          let many : size a.shape ≢ 1 = λ e. several.1 (long ∙ e) in
          let here = at_many several.1 many in
          let below : places_before a.shape index < length xs = omega (arith, here.1, as_many a xs long is_a) in
          subst (λ w. Entry a xs index (place w)) (sym several.0) (rw here.0 (record {
            there = below;
            is = sym (number_there a.items xs (places_before a.shape index) (fill a.item_type) is_a below) ∙ sym (extended_many a index many);
          }))
    ]

row_entry : (a : ArrayValue) (xs : List ℤ) → length a.items ≡ size a.shape → a.items ≡ map (λ z. Num z) xs → 0 < length xs
    → (row : List ℕ) (count k : ℕ) → is_index_of (take (row_rank a) a.shape) row ≡ true → (length a.items ≢ 1 → row_length a ≡ count) → k < count
    → Entry a xs (row ++ (k + 1) ∷ []) (places_before (take (row_rank a) a.shape) row * count + k * cond (eqb (length a.items) 1) 0 1)
row_entry a xs long is_a some row count k inside row_long low =
    let p = places_before (take (row_rank a) a.shape) row in
    entry_at a xs long is_a some (row ++ (k + 1) ∷ []) (λ w. p * count + k * cond w 0 1)
    (λ single. let none : p ≡ 0 = omega (arith, places_below (take (row_rank a) a.shape) row inside, one_row a.shape single) in rw none (omega arith))
    (λ several many.
    let e : row_length a ≡ count = row_long several in
    let here = row_place a row k many inside (omega arith) in
    let same : p * row_length a ≡ p * count = ap (λ n. p * n) e in
    (omega (arith, here.place), omega (arith, here.place, here.below)))

column_entry : (b : ArrayValue) (ys : List ℤ) → length b.items ≡ size b.shape → b.items ≡ map (λ z. Num z) ys → 0 < length ys
    → (column : List ℕ) (count k : ℕ) → is_index_of (drop 1 b.shape) column ≡ true → (length b.items ≢ 1 → column_length b ≡ count) → k < count
    → Entry b ys ((k + 1) ∷ column) (places_before (drop 1 b.shape) column + k * cond (eqb (length b.items) 1) 0 (size (drop 1 b.shape)))
column_entry b ys long is_b some column count k inside column_long low =
    let p = places_before (drop 1 b.shape) column in
    entry_at b ys long is_b some ((k + 1) ∷ column) (λ w. p + k * cond w 0 (size (drop 1 b.shape)))
    (λ single. let none : p ≡ 0 = omega (arith, places_below (drop 1 b.shape) column inside, (size-drop-le 1 b.shape (omega arith)).1) in rw none (omega arith))
    (λ several many.
    let e : column_length b ≡ count = column_long several in
    let here = column_place b column k many inside (omega arith) in
    (sym here.place, omega (arith, here.place, here.below)))

-- ---- the two parts of an index list of the result

record Apart (a b : ArrayValue) (index : List ℕ) : Type 0 where
  front : is_index_of (take (row_rank a) a.shape) (take (row_rank a) index) ≡ true
  back : is_index_of (drop 1 b.shape) (drop (row_rank a) index) ≡ true
  row : places_before (take (row_rank a) a.shape ++ drop 1 b.shape) index / size (drop 1 b.shape) ≡ places_before (take (row_rank a) a.shape) (take (row_rank a) index)
  column : places_before (take (row_rank a) a.shape ++ drop 1 b.shape) index % size (drop 1 b.shape) ≡ places_before (drop 1 b.shape) (drop (row_rank a) index)

apart : (a b : ArrayValue) (index : List ℕ) → is_index_of (take (row_rank a) a.shape ++ drop 1 b.shape) index ≡ true → Apart a b index
apart a b index h =
    let rows = take (row_rank a) a.shape in
    let columns = drop 1 b.shape in
    let p = parts rows columns index h in
    let long = rank_of_rows a in
    record {
      front = subst (λ k. is_index_of rows (take k index) ≡ true) long p.front;
      back = subst (λ k. is_index_of columns (drop k index) ≡ true) long p.back;
      row = subst (λ k. places_before (rows ++ columns) index / size columns ≡ places_before rows (take k index)) long p.front_place;
      column = subst (λ k. places_before (rows ++ columns) index % size columns ≡ places_before columns (drop k index)) long p.back_place;
    }

either_some : (w : Bool) (x y : ℕ) → 1 ≤ x → 1 ≤ y → 1 ≤ cond w x y
either_some true x y h g = h
either_some false x y h g = g

-- ---- the rows and the columns of two arrays of numbers

module _ (a b : ArrayValue) (xs ys : List ℤ) (long_a : length a.items ≡ size a.shape) (long_b : length b.items ≡ size b.shape)
    (is_a : a.items ≡ map (λ z. Num z) xs) (is_b : b.items ≡ map (λ z. Num z) ys) (some_a : 0 < length xs) (some_b : 0 < length ys) where
  module _ (row_long : length a.items ≢ 1 → row_length a ≡ inner_length a b) (column_long : length b.items ≢ 1 → column_length b ≡ inner_length a b) where
    grid_fits : IsGridOf (grid_of a b) (size (take (row_rank a) a.shape ++ drop 1 b.shape)) (length xs) (length ys)
    grid_fits =
        let rows = take (row_rank a) a.shape in
        let columns = drop 1 b.shape in
        let m = as_many a xs long_a is_a in
        let n = as_many b ys long_b is_b in
        record {
          some_columns = (size-drop-le 1 b.shape (omega arith)).0;
          some = either_some (has_one_item a) (column_length b) (row_length a) (axis_some b.shape 0 (omega arith)) (axis_some a.shape (row_rank a) (omega arith));
          rows = λ place h k low.
              let index = index_after (rows ++ columns) place in
              let two = apart a b index (index_after-within (rows ++ columns) place h) in
              let there = (row_entry a xs long_a is_a some_a (take (row_rank a) index) (inner_length a b) k two.front row_long low).there in
              subst (λ q. q * inner_length a b + k * cond (eqb (length a.items) 1) 0 1 < length xs)
              (sym two.row ∙ ap (λ q. q / size columns) (places_before-index_after (rows ++ columns) place h)) there;
          columns = λ place h k low.
              let index = index_after (rows ++ columns) place in
              let two = apart a b index (index_after-within (rows ++ columns) place h) in
              let there = (column_entry b ys long_b is_b some_b (drop (row_rank a) index) (inner_length a b) k two.back column_long low).there in
              subst (λ q. q + k * cond (eqb (length b.items) 1) 0 (size columns) < length ys)
              (sym two.column ∙ ap (λ q. q % size columns) (places_before-index_after (rows ++ columns) place h)) there;
        }

    cell_there : (f g : Scalar2) (index : List ℕ) → is_index_of (take (row_rank a) a.shape ++ drop 1 b.shape) index ≡ true
        → number_item (cell (dyadic_on_numbers f) (dyadic_on_numbers g) xs ys (grid_of a b) (places_before (take (row_rank a) a.shape ++ drop 1 b.shape) index))
        ≡ inner_item f g a b index
    cell_there f g index h =
        let columns = drop 1 b.shape in
        let place = places_before (take (row_rank a) a.shape ++ columns) index in
        let two = apart a b index h in
        let row = take (row_rank a) index in
        let column = drop (row_rank a) index in
        let count = inner_length a b in
        let x = entry (pos 0) xs (row_at (grid_of a b) place) in
        let y = entry (pos 0) ys (column_at (grid_of a b) place) in
        let some : 1 ≤ count = grid_fits.some in
        let long = length-met (dyadic_on_items g) (λ k. Num (x k)) (λ k. Num (y k)) count in
        let same = products_met g a b row column (λ k. Num (x k)) (λ k. Num (y k)) count refl
        (λ k low. subst (λ q. Num (get_or xs (q * count + k * cond (eqb (length a.items) 1) 0 1) (pos 0)) ≡ extended a (row ++ (k + 1) ∷ [])) (sym two.row)
        (row_entry a xs long_a is_a some_a row count k two.front row_long low).is)
        (λ k low. subst (λ q. Num (get_or ys (q + k * cond (eqb (length b.items) 1) 0 (size columns)) (pos 0)) ≡ extended b ((k + 1) ∷ column)) (sym two.column)
        (column_entry b ys long_b is_b some_b column count k two.back column_long low).is) in
        sym (ap (λ rs. and_then (all_or_last_error rs) (fold_right f)) same
        ∙ fold_of_some f (all_met (dyadic_on_items g) (λ k. Num (x k)) (λ k. Num (y k)) count) (omega arith)
        ∙ fold_of_numbers f g x y count)

  -- facts that follow when the checks pass
  record Checked (form : Form) : Type 0 where
    is : form ≡ form_of (take (row_rank a) a.shape ++ drop 1 b.shape) Nums
    row : length a.items ≢ 1 → row_length a ≡ inner_length a b
    column : length b.items ≢ 1 → column_length b ≡ inner_length a b

  checked : (form : Form) → inner_form a b ≡ Ok form → Checked form
  checked form h =
      let test = gives ((has_one_item a || has_one_item b) || eqb (row_length a) (column_length b)) Length (limited (take (row_rank a) a.shape ++ drop 1 b.shape) Nums) form h in
      let long = lengths_of (eqb (length a.items) 1) (eqb (length b.items) 1) (row_length a) (column_length b) (length a.items) (length b.items) refl refl test.test in
      record { is = limited_gives (take (row_rank a) a.shape ++ drop 1 b.shape) Nums form test.is; row = long.0; column = long.1 }

  pub inner_grid : (form : Form) → inner_form a b ≡ Ok form → IsGridOf (grid_of a b) (size form.shape) (length xs) (length ys)
  inner_grid form h =
      let c = checked form h in
      subst (λ (g : Form). IsGridOf (grid_of a b) (size g.shape) (length xs) (length ys)) (sym c.is) (grid_fits c.row c.column)

  pub inner_of_numbers : (f g : Scalar2) (form : Form) → inner_form a b ≡ Ok form
      → collect Nums form.shape (λ index. number_item (cell (dyadic_on_numbers f) (dyadic_on_numbers g) xs ys (grid_of a b) (places_before form.shape index))) ≡ inner_whole f g a b
  inner_of_numbers f g form h =
      let c = checked form h in
      let shape = take (row_rank a) a.shape ++ drop 1 b.shape in
      let number = cell (dyadic_on_numbers f) (dyadic_on_numbers g) xs ys (grid_of a b) in
      sym (ap (λ r. whole r (inner_item f g a b)) h
      ∙ ap (λ (w : Form). collect w.item_type w.shape (inner_item f g a b)) c.is
      ∙ sym (ap (λ (w : Form). collect Nums w.shape (λ index. number_item (number (places_before w.shape index)))) c.is
      ∙ collected_same Nums shape (λ index. number_item (number (places_before shape index))) (inner_item f g a b) (cell_there c.row c.column f g)))
