-- The rows of a shape, which lie along its last axis.
use Rattle.std.{proofs.Common.{◌≡◌, ℕ, zero, suc, ◌+◌, ◌-◌, ◌*◌, ◌<◌, ◌≤◌, true, List, [], ◌∷◌, ◌++◌, length, get_or, take, map, refl, ap, sym, ◌∙◌, arith, append_assoc, Result, Ok}, specs.List.{range_with_len}, specs.Prelude.{OnOk}, proofs.lemmas.Result.{on_ok_weaker}, proofs.lemmas.Bool.{and_from, le-leb}}
use Rattle.std.{proofs.lemmas.List.{take_more, map-append, append-nil, length-map, length_push, get_or_append_left, get_or_push}, proofs.lemmas.List.FromFn.{map-range_with_len_more}, proofs.lemmas.Simd.{map-map}}
use Rattle.arrays_core.{specs.Items.{all_or_first_error}, specs.Shapes.{size, indices, is_index_of, places_before, IsWithinLimits}, specs.Building.{listed, with_row, IsRowOf}, proofs.Shapes.{as_long, head_of, places_below, factor_le}, proofs.Building.{range_more}}
use Rattle.arrays_core.proofs.Order.{length-indices, at_place, ok_more, all_given, all_ok, given, CollectedTo}

-- ---- one more axis at the end

pub size_row : (rows : List ℕ) (n : ℕ) → size (rows ++ n ∷ []) ≡ size rows * n
size_row [] n = omega arith
size_row (m ∷ rows) n = ap (λ s. m * s) (size_row rows n) ∙ omega arith

pub places_before_row : (rows row : List ℕ) (n i : ℕ) → is_index_of rows row ≡ true
    → places_before (rows ++ n ∷ []) (row ++ i ∷ []) ≡ places_before rows row * n + (i - 1)
places_before_row [] [] n i h = omega arith
places_before_row [] (j ∷ row) n i h = cc
places_before_row (m ∷ rows) [] n i h = cc
places_before_row (m ∷ rows) (j ∷ row) n i h = rw (size_row rows n, places_before_row rows row n i (head_of m j rows row h).rest) (omega arith)

pub index_of_row : (rows row : List ℕ) (n i : ℕ) → is_index_of rows row ≡ true → 1 ≤ i → i ≤ n → is_index_of (rows ++ n ∷ []) (row ++ i ∷ []) ≡ true
index_of_row [] [] n i h low high = and_from _ _ (and_from _ _ (le-leb 1 i low) (le-leb i n high)) refl
index_of_row [] (j ∷ row) n i h low high = cc
index_of_row (m ∷ rows) [] n i h low high = cc
index_of_row (m ∷ rows) (j ∷ row) n i h low high =
    let head = head_of m j rows row h in
    and_from _ _ (and_from _ _ (le-leb 1 j head.low) (le-leb j m head.high)) (index_of_row rows row n i head.rest low high)

pub row_of : (rows row : List ℕ) (n : ℕ) → is_index_of rows row ≡ true → length rows < 4 → 0 < n → IsRowOf (rows ++ n ∷ []) row n
row_of rows row n h few some =
    let long = as_long rows row h in
    let one : length (rows ++ n ∷ []) ≡ length rows + 1 = length_push rows n in
    record { rank = omega arith; long = omega arith; some = some; whole = get_or_push rows n 0 (length row) (sym long); places = λ i low high. index_of_row rows row n i h low high }

-- ---- index lists that differ in the last index

-- the index after a row
pub record RowEnd (shape row : List ℕ) (i : ℕ) : Type 0 where
  pub long : length shape ≡ length row + 1
  pub low : 1 ≤ i
  pub high : i ≤ get_or shape (length row) 0

pub row_end : (shape row : List ℕ) (i : ℕ) → is_index_of shape (row ++ i ∷ []) ≡ true → RowEnd shape row i
row_end [] [] i h = cc
row_end [] (j ∷ row) i h = cc
row_end (n ∷ []) [] i h = let head = head_of n i [] [] h in record { long = refl; low = head.low; high = head.high }
row_end (n ∷ m ∷ shape) [] i h = absurd (no_more (head_of n i (m ∷ shape) [] h).rest)
  where
    no_more : is_index_of (m ∷ shape) [] ≡ true → ⊥
    no_more e = cc
row_end (n ∷ shape) (j ∷ row) i h =
    let rest = row_end shape row i (head_of n j shape (row ++ i ∷ []) h).rest in
    record { long = omega (arith, rest.long); low = rest.low; high = rest.high }

pub same_row : (shape row : List ℕ) (i j : ℕ) → is_index_of shape (row ++ i ∷ []) ≡ true → 1 ≤ j → j ≤ get_or shape (length row) 0
    → is_index_of shape (row ++ j ∷ []) ≡ true
same_row [] [] i j h low high = cc
same_row [] (k ∷ row) i j h low high = cc
same_row (n ∷ shape) [] i j h low high = and_from _ _ (and_from _ _ (le-leb 1 j low) (le-leb j n high)) (head_of n i shape [] h).rest
same_row (n ∷ shape) (k ∷ row) i j h low high =
    let head = head_of n k shape (row ++ i ∷ []) h in
    and_from _ _ (and_from _ _ (le-leb 1 k head.low) (le-leb k n head.high)) (same_row shape row i j head.rest low high)

-- the places of a row are adjacent
pub places_in_row : (shape row : List ℕ) (i j : ℕ) → is_index_of shape (row ++ i ∷ []) ≡ true → 1 ≤ j
    → places_before shape (row ++ j ∷ []) + i ≡ places_before shape (row ++ i ∷ []) + j
places_in_row [] [] i j h low = cc
places_in_row [] (k ∷ row) i j h low = cc
places_in_row (n ∷ []) [] i j h low = let head = head_of n i [] [] h in omega (arith, head.low)
places_in_row (n ∷ m ∷ shape) [] i j h low = absurd (no_more (head_of n i (m ∷ shape) [] h).rest)
  where
    no_more : is_index_of (m ∷ shape) [] ≡ true → ⊥
    no_more e = cc
places_in_row (n ∷ shape) (k ∷ row) i j h low =
    let rest = places_in_row shape row i j (head_of n k shape (row ++ i ∷ []) h).rest low in
    omega arith

-- ---- items of rows, one row after another

pub with_row_none : {A E : Type 0} (items : List A) (function : ℕ → Result A E) → with_row items function 0 ≡ Ok items
with_row_none {A = A} {E = E} items function = ap all_or_first_error (append-nil (map (given A E) items)) ∙ all_given A E items

-- more items of a row
pub with_row_more : {A E : Type 0} (items now : List A) (function : ℕ → Result A E) (f : ℕ → A) (k n m : ℕ) → k + n ≡ m
    → ((j : ℕ) → j < n → function (k + j + 1) ≡ Ok (f j)) → with_row items function k ≡ Ok now → with_row items function m ≡ Ok (now ++ listed n f)
with_row_more items now function f k zero m e each so_far =
    let same : m ≡ k = omega arith in
    rw (same, append-nil) so_far
with_row_more {A = A} {E = E} items now function f k (suc n) m e each so_far =
    let before : with_row items function (k + n) ≡ Ok (now ++ listed n f) = with_row_more items now function f k n (k + n) refl (λ j h. each j (omega arith)) so_far in
    let start = map (given A E) items in
    let row = map function (range_with_len 1 (k + n)) in
    let same : m ≡ k + n + 1 = omega arith in
    let more : listed (suc n) f ≡ listed n f ++ f n ∷ [] =
    ap (λ j. listed j f) (let one : suc n ≡ n + 1 = omega arith in one) ∙ map-range_with_len_more f 0 n n (omega arith) in
    rw (same, map-range_with_len_more function 1 (k + n) (k + n + 1) (omega arith) ∙ ap (λ r. row ++ r ∷ []) (each n (omega arith)), ← append_assoc start row (Ok (f n) ∷ []))
    (ok_more (start ++ row) (now ++ listed n f) (f n) before ∙ ap (λ xs. Ok xs) (append_assoc now (listed n f) (f n ∷ []) ∙ ap (λ xs. now ++ xs) (sym more)))

-- a call that appends a run of items has appended a row, or the rest of one
pub row_put : {A T X E : Type 0} (r : Result T X) (items new : List A) (function : ℕ → Result A E) (f : ℕ → A) (count : ℕ)
    → ((j : ℕ) → j < count → function (0 + j + 1) ≡ Ok (f j)) → OnOk r (new ≡ items ++ listed count f) → OnOk r (with_row items function count ≡ Ok new)
row_put r items new function f count each put =
    on_ok_weaker r (λ e. with_row_more items items function f 0 count count (omega arith) each (with_row_none items function) ∙ ap (λ xs. Ok xs) (sym e)) put

pub row_put_more : {A T X E : Type 0} (r : Result T X) (items now new : List A) (function : ℕ → Result A E) (f : ℕ → A) (k n m : ℕ) → k + n ≡ m
    → ((j : ℕ) → j < n → function (k + j + 1) ≡ Ok (f j)) → with_row items function k ≡ Ok now → OnOk r (new ≡ now ++ listed n f) → OnOk r (with_row items function m ≡ Ok new)
row_put_more r items now new function f k n m whole each so_far put =
    on_ok_weaker r (λ e. with_row_more items now function f k n m whole each so_far ∙ ap (λ xs. Ok xs) (sym e)) put

-- a part of a row, and the next part
pub with_row_then : {A E : Type 0} (items now new : List A) (function : ℕ → Result A E) (k n m : ℕ) → k + n ≡ m → with_row items function k ≡ Ok now
    → with_row now (λ i. function (k + i)) n ≡ Ok new → with_row items function m ≡ Ok new
with_row_then {A = A} {E = E} items now new function k n m e so_far rest =
    let start = map (given A E) items in
    let split : map function (range_with_len 1 m) ≡ map function (range_with_len 1 k) ++ map (λ i. function (k + i)) (range_with_len 1 n) =
    ap (λ j. map function (range_with_len 1 j)) (sym e) ∙ range_more function 1 k n
    ∙ ap (λ rs. map function (range_with_len 1 k) ++ rs) (range_shift function 1 (1 + k) k n (omega arith)) in
    ap (λ rs. all_or_first_error (start ++ rs)) split
    ∙ ap all_or_first_error (sym (append_assoc start (map function (range_with_len 1 k)) (map (λ i. function (k + i)) (range_with_len 1 n)))
    ∙ ap (λ rs. rs ++ map (λ i. function (k + i)) (range_with_len 1 n)) (all_ok (start ++ map function (range_with_len 1 k)) now so_far)) ∙ rest
  where
    range_shift : {B : Type 0} (f : ℕ → B) (a b k n : ℕ) → b ≡ k + a → map f (range_with_len b n) ≡ map (λ i. f (k + i)) (range_with_len a n)
    range_shift f a b k zero e = refl
    range_shift f a b k (suc n) e =
        ap (λ xs. f b ∷ xs) (range_shift f (a + 1) (b + 1) k n (omega arith)) ∙ ap (λ j. f j ∷ map (λ i. f (k + i)) (range_with_len (a + 1) n)) e

-- ---- a row of a shape after the rows before it

-- the first index lists of a row come after all of the rows before it
row_taken : (rows row : List ℕ) (n : ℕ) → is_index_of rows row ≡ true → (j : ℕ) → j ≤ n
    → take (places_before rows row * n + j) (indices (rows ++ n ∷ []))
    ≡ take (places_before rows row * n) (indices (rows ++ n ∷ [])) ++ map (λ i. row ++ i ∷ []) (range_with_len 1 j)
row_taken rows row n inside zero h = rw append-nil (let same : places_before rows row * n + 0 ≡ places_before rows row * n = omega arith in rw same refl)
row_taken rows row n inside (suc j) h =
    let shape = rows ++ n ∷ [] in
    let b = places_before rows row * n in
    let is = indices shape in
    let long = length-indices shape in
    let sized = size_row rows n in
    let place : places_before shape (row ++ (j + 1) ∷ []) ≡ b + j = places_before_row rows row n (j + 1) inside ∙ omega arith in
    let there = index_of_row rows row n (j + 1) inside (omega arith) (omega arith) in
    let below : b + j < size shape = rw place at (places_below shape (row ++ (j + 1) ∷ []) there) in
    let here : get_or is (b + j) [] ≡ row ++ (j + 1) ∷ [] = ap (λ m. get_or is m []) (sym place) ∙ at_place shape (row ++ (j + 1) ∷ []) there in
    let same : suc j ≡ j + 1 = omega arith in
    let more : map (λ i. row ++ i ∷ []) (range_with_len 1 (suc j)) ≡ map (λ i. row ++ i ∷ []) (range_with_len 1 j) ++ (row ++ (j + 1) ∷ []) ∷ [] =
    ap (λ m. map (λ i. row ++ i ∷ []) (range_with_len 1 m)) same ∙ map-range_with_len_more (λ i. row ++ i ∷ []) 1 j (j + 1) (omega arith) in
    ap (λ m. take m is) (omega arith) ∙ take_more is (b + j) [] (omega arith) ∙ ap (λ xs. xs ++ get_or is (b + j) [] ∷ []) (row_taken rows row n inside j (omega arith))
    ∙ ap (λ y. (take b is ++ map (λ i. row ++ i ∷ []) (range_with_len 1 j)) ++ y ∷ []) here
    ∙ append_assoc (take b is) (map (λ i. row ++ i ∷ []) (range_with_len 1 j)) ((row ++ (j + 1) ∷ []) ∷ [])
    ∙ ap (λ xs. take b is ++ xs) (sym more)

-- one more row
pub row_collected : {A E : Type 0} (rows row : List ℕ) (n r : ℕ) (function : List ℕ → Result A E) (items now : List A)
    → is_index_of rows row ≡ true → places_before rows row ≡ r → with_row items (λ i. function (row ++ i ∷ [])) n ≡ Ok now
    → CollectedTo (rows ++ n ∷ []) function (r * n) items → CollectedTo (rows ++ n ∷ []) function ((r + 1) * n) now
row_collected {A = A} {E = E} rows row n r function items now inside here made c =
    let is = indices (rows ++ n ∷ []) in
    let b = places_before rows row * n in
    let index = λ (i : ℕ). row ++ i ∷ [] in
    let before : map function (take b is) ≡ map (given A E) items = all_ok (map function (take b is)) items (rw (ap (λ m. m * n) here) c.so_far) in
    record {
      so_far = ap (λ m. all_or_first_error (map function (take m is))) (rw here (omega arith))
          ∙ ap (λ xs. all_or_first_error (map function xs)) (row_taken rows row n inside n (omega arith))
          ∙ ap all_or_first_error (map-append function (take b is) (map index (range_with_len 1 n))
          ∙ ap (λ xs. xs ++ map function (map index (range_with_len 1 n))) before
          ∙ ap (λ xs. map (given A E) items ++ xs) (map-map function index (range_with_len 1 n)))
          ∙ made;
    }

-- ---- the limits of the other axes

pub rows_within : (rows : List ℕ) (n : ℕ) → IsWithinLimits (rows ++ n ∷ []) → 0 < size (rows ++ n ∷ []) → IsWithinLimits rows
rows_within rows n w positive =
    let long : length (rows ++ n ∷ []) ≡ length rows + 1 = length_push rows n in
    let few = factor_le (size rows) n (size (rows ++ n ∷ [])) (sym (size_row rows n)) positive in
    record { rank = omega (arith, w.rank); axes = λ k d h. rw get_or_append_left at (w.axes k d (omega arith)); size_within = omega (arith, w.size_within) }

first_positive : (s n : ℕ) → 0 < s * n → 0 < s
first_positive zero n h = absurd (omega arith)
first_positive (suc s) n h = omega arith

pub some_rows : (rows : List ℕ) (n : ℕ) → 0 < size (rows ++ n ∷ []) → 0 < size rows
some_rows rows n positive = first_positive (size rows) n (rw size_row at positive)

-- ---- as many items as places

pub items_long : {A E : Type 0} (shape : List ℕ) (function : List ℕ → Result A E) (items : List A) → all_or_first_error (map function (indices shape)) ≡ Ok items
    → length items ≡ size shape
items_long {A = A} {E = E} shape function items made =
    sym (length-map items (given A E)) ∙ ap length (sym (all_ok (map function (indices shape)) items made)) ∙ length-map (indices shape) function ∙ length-indices shape
