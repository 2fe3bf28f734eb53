-- The facts that follow when the checks of the inner product pass, and the positions of its rows and columns.
use Rattle.std.{proofs.Common.{◌≡◌, ◌≢◌, ℕ, ◌+◌, ◌-◌, ◌*◌, ◌<◌, Bool, true, false, cond, eqb, ◌||◌, List, [], ◌∷◌, ◌++◌, length, get_or, take, drop, refl, ap, sym, subst, ◌∙◌, arith}, proofs.lemmas.Bool.{eq-eqb, ne_eqb, and_from, le-leb, eqb-true}, proofs.lemmas.List.{take_all, take_more, length-take-le}}
use Rattle.arrays_core.{specs.declared.item.ItemType.TheVariants.{Nums}, specs.Items.{fill}, specs.Shapes.{size, is_index_of, places_before}, specs.Arrays.{ArrayValue, item_of}, proofs.Shapes.{places_below, as_long}}
use Rattle.scalar_fns.specs.ScalarExtension.{extended}
use Rattle.index_region.{specs.Arguments.{has_one_item}, specs.Answers.{IsPlaceOf}, proofs.Passing.{passed, place_inside}}
use Rattle.operator_fns.{specs.InnerProduct.{row_rank, row_length, column_length, inner_length, inner_form}, specs.Laws.JoinedIndices.{places-append, joined_inside, parts}}

-- ---- arrays of one item, and others
pub extended_one : (a : ArrayValue) (index : List ℕ) → size a.shape ≡ 1 → extended a index ≡ get_or a.items 0 (fill a.item_type)
extended_one a index h = ap (λ b. get_or a.items (cond b 0 (places_before a.shape index)) (fill a.item_type)) (eq-eqb (size a.shape) 1 h)

pub extended_many : (a : ArrayValue) (index : List ℕ) → size a.shape ≢ 1 → extended a index ≡ item_of a index
extended_many a index h = ap (λ b. get_or a.items (cond b 0 (places_before a.shape index)) (fill a.item_type)) (ne_eqb (size a.shape) 1 h)

some_axes : (shape : List ℕ) → size shape ≢ 1 → 0 < length shape
some_axes [] h = absurd (h refl)
some_axes (n ∷ shape) h = omega arith

-- ---- rows
pub last_axis : (shape : List ℕ) → 0 < length shape → shape ≡ take (length shape - 1) shape ++ get_or shape (length shape - 1) 1 ∷ []
last_axis shape h =
    let k = length shape - 1 in
    sym (take_all (k + 1) shape (omega arith)) ∙ take_more shape k 1 (omega arith)

-- the entries of a row are adjacent
row_places : (rows row : List ℕ) (n k : ℕ) → length row ≡ length rows → places_before (rows ++ n ∷ []) (row ++ (k + 1) ∷ []) ≡ places_before rows row * n + k
row_places rows row n k h =
    let split = places-append rows (n ∷ []) row ((k + 1) ∷ []) h in
    let one : size (n ∷ []) ≡ n = omega arith in
    let last : places_before (n ∷ []) ((k + 1) ∷ []) ≡ k = omega arith in
    split ∙ (rw (one, last) refl)

one_below : (n k : ℕ) → k < n → is_index_of (n ∷ []) ((k + 1) ∷ []) ≡ true
one_below n k h = and_from _ _ (and_from _ _ (le-leb 1 (k + 1) (omega arith)) (le-leb (k + 1) n (omega arith))) refl

pub record RowPlace (a : ArrayValue) (row : List ℕ) (k : ℕ) : Type 0 where
  pub inside : is_index_of a.shape (row ++ (k + 1) ∷ []) ≡ true
  pub place : places_before a.shape (row ++ (k + 1) ∷ []) ≡ places_before (take (row_rank a) a.shape) row * row_length a + k
  pub below : places_before (take (row_rank a) a.shape) row * row_length a + k < size a.shape

pub row_place : (a : ArrayValue) (row : List ℕ) (k : ℕ) → size a.shape ≢ 1 → is_index_of (take (row_rank a) a.shape) row ≡ true → k < row_length a → RowPlace a row k
row_place a row k many h low =
    let rows = take (row_rank a) a.shape in
    let n = row_length a in
    let split : a.shape ≡ rows ++ n ∷ [] = last_axis a.shape (some_axes a.shape many) in
    let inside : is_index_of a.shape (row ++ (k + 1) ∷ []) ≡ true =
    ap (λ s. is_index_of s (row ++ (k + 1) ∷ [])) split ∙ joined_inside rows (n ∷ []) row ((k + 1) ∷ []) h (one_below n k low) in
    let place : places_before a.shape (row ++ (k + 1) ∷ []) ≡ places_before rows row * n + k =
    ap (λ s. places_before s (row ++ (k + 1) ∷ [])) split ∙ row_places rows row n k (as_long rows row h) in
    record { inside = inside; place = place; below = omega (arith, places_below a.shape (row ++ (k + 1) ∷ []) inside) }

-- ---- columns
pub record ColumnPlace (a : ArrayValue) (column : List ℕ) (k : ℕ) : Type 0 where
  pub inside : is_index_of a.shape ((k + 1) ∷ column) ≡ true
  pub place : places_before a.shape ((k + 1) ∷ column) ≡ places_before (drop 1 a.shape) column + k * size (drop 1 a.shape)
  pub below : places_before (drop 1 a.shape) column + k * size (drop 1 a.shape) < size a.shape

column_in : (shape column : List ℕ) (k : ℕ) → 0 < length shape → is_index_of (drop 1 shape) column ≡ true → k < get_or shape 0 1
    → (is_index_of shape ((k + 1) ∷ column) ≡ true) × (places_before shape ((k + 1) ∷ column) ≡ places_before (drop 1 shape) column + k * size (drop 1 shape))
column_in [] column k some h low = absurd (omega arith)
column_in (n ∷ shape) column k some h low =
    let less : k + 1 - 1 ≡ k = omega arith in
    (and_from _ _ (and_from _ _ (le-leb 1 (k + 1) (omega arith)) (le-leb (k + 1) n (omega arith))) h, (rw less (omega arith)))

pub column_place : (a : ArrayValue) (column : List ℕ) (k : ℕ) → size a.shape ≢ 1 → is_index_of (drop 1 a.shape) column ≡ true → k < column_length a → ColumnPlace a column k
column_place a column k many h low =
    let there = column_in a.shape column k (some_axes a.shape many) h low in
    record { inside = there.0; place = there.1; below = omega (arith, there.1, places_below a.shape ((k + 1) ∷ column) there.0) }

-- ---- checks that passed
pub lengths_of : (one_a one_b : Bool) (m n x y : ℕ) → eqb x 1 ≡ one_a → eqb y 1 ≡ one_b → (one_a || one_b || eqb m n) ≡ true
    → (x ≢ 1 → m ≡ cond one_a n m) × (y ≢ 1 → n ≡ cond one_a n m)
lengths_of true one_b m n x y p q h = (λ many. absurd (many (eqb-true x 1 p)), λ many. refl)
lengths_of false true m n x y p q h = (λ many. refl, λ many. absurd (many (eqb-true y 1 q)))
lengths_of false false m n x y p q h = (λ many. refl, λ many. sym (eqb-true m n h))

pub record PassedInner (a b : ArrayValue) (index : List ℕ) : Type 0 where
  pub inside : is_index_of (take (row_rank a) a.shape ++ drop 1 b.shape) index ≡ true
  pub row : length a.items ≢ 1 → row_length a ≡ inner_length a b
  pub column : length b.items ≢ 1 → column_length b ≡ inner_length a b
  pub rows : length (take (row_rank a) a.shape) ≡ row_rank a
  pub front : is_index_of (take (row_rank a) a.shape) (take (row_rank a) index) ≡ true
  pub back : is_index_of (drop 1 b.shape) (drop (row_rank a) index) ≡ true

pub rank_of_rows : (a : ArrayValue) → length (take (row_rank a) a.shape) ≡ row_rank a
rank_of_rows a = length-take-le (row_rank a) a.shape (omega arith)

pub passed_inner : (a b : ArrayValue) (index : List ℕ) → IsPlaceOf (inner_form a b) index → PassedInner a b index
passed_inner a b index h =
    let test = passed ((has_one_item a || has_one_item b) || eqb (row_length a) (column_length b)) _ _ index h in
    let long = lengths_of (eqb (length a.items) 1) (eqb (length b.items) 1) (row_length a) (column_length b) (length a.items) (length b.items) refl refl test.test in
    let rows = take (row_rank a) a.shape in
    let inside = place_inside (rows ++ drop 1 b.shape) Nums index test.place in
    let apart = parts rows (drop 1 b.shape) index inside in
    let long_rows = rank_of_rows a in
    record {
      inside = inside;
      row = long.0;
      column = long.1;
      rows = long_rows;
      front = subst (λ k. is_index_of rows (take k index) ≡ true) long_rows apart.front;
      back = subst (λ k. is_index_of (drop 1 b.shape) (drop k index) ≡ true) long_rows apart.back;
    }
