-- Rows of a result whose items are evenly spaced in an argument.
use Rattle.std.{proofs.Common.{◌≡◌, ℕ, zero, suc, ◌+◌, ◌-◌, ◌*◌, ◌<◌, ◌≤◌, true, cond, List, [], ◌∷◌, ◌++◌, length, get_or, drop, reverse, Result, Ok, refl, ap, sym, ◌∙◌, arith, nat_eq, Bool, false, map, Err, subst, max, ◌/◌}, specs.List.{range_with_len}, proofs.lemmas.Bool.{eqb-true, eqb-false}}
use Rattle.std.proofs.lemmas.List.{length-reverse, reverse-append, get_or_push, drop_more, drop_all}
use Rattle.std.proofs.Math.Nat.{mul-div_cancel_left}
use Rattle.arrays_core.{specs.declared.item.Item.{Item}, specs.declared.item.ItemType.{ItemType}, specs.declared.item.Kind.{Kind}, specs.Items.{fill}, specs.Arrays.{ArrayValue, IsArray}, specs.Building.{listed, with_row, IsRowOf}, specs.Shapes.{size, is_index_of, places_before}}
use Rattle.arrays_core.{proofs.Shapes.{places_below}, proofs.Rows.{row_end, places_in_row, with_row_none, with_row_more}}
use Rattle.index_region.{specs.Checks.{Form, form_of}, specs.Answers.{IsRowIn}, proofs.Passing.{row_inside, place_of_row}, proofs.Placed.{left_placed, right_placed}}
use Rattle.structural_fns.{specs.Transpose.{transpose_form, transpose_item}, specs.DyadicTranspose.{axes_to, gathered, stride_to, transpose_by_form, transpose_by_item}, proofs.SourcePlaces.{transpose_inside, gathered_inside}}

-- functions that agree on a range have the same values
range_same : {A : Type 0} (f g : ℕ → A) (a n : ℕ) → ((i : ℕ) → a ≤ i → i < a + n → f i ≡ g i) → map f (range_with_len a n) ≡ map g (range_with_len a n)
range_same f g a zero h = refl
range_same f g a (suc n) h =
    ap (λ x. x ∷ map f (range_with_len (a + 1) n)) (h a (omega arith) (omega arith)) ∙ ap (λ xs. g a ∷ xs) (range_same f g (a + 1) n (λ i low high. h i (omega arith) (omega arith)))

pub listed_same : {A : Type 0} (n : ℕ) (f g : ℕ → A) → ((k : ℕ) → k < n → f k ≡ g k) → listed n f ≡ listed n g
listed_same n f g h = range_same f g 0 n (λ i low high. h i (omega arith))

-- a row has places
pub row_some : (form : Result Form Kind) (row : List ℕ) (count : ℕ) (item_type : ItemType) → IsRowIn form row count item_type → 0 < count
row_some (Ok form) row count item_type h = h.0.some
row_some (Err kind) row count item_type h = absurd h

-- a row of the result of passed checks
pub row_in : (form : Result Form Kind) (shape row : List ℕ) (count : ℕ) (asked item_type : ItemType) → form ≡ Ok (form_of shape asked) → IsRowOf shape row count → item_type ≡ asked
    → IsRowIn form row count item_type
row_in form shape row count asked item_type passed h typed = subst (λ (f : Result Form Kind). IsRowIn f row count item_type) (sym passed) (h, sym typed)

-- ---- a row of consecutive items of an array

module _ (shape : List ℕ) (at : ℕ → List ℕ) (others : List ℕ) (place : ℕ → ℕ) (count : ℕ) (inside : (j : ℕ) → j < count → is_index_of shape (at (0 + j + 1)) ≡ true)
    (is : (i : ℕ) → at i ≡ others ++ place i ∷ []) (next : (j : ℕ) → place (0 + j + 1) ≡ place 1 + j) where
  pub place_beside : (j : ℕ) → j < count → places_before shape (at (0 + j + 1)) ≡ places_before shape (at 1) + j
  place_beside j h =
      let begin : is_index_of shape (others ++ place 1 ∷ []) ≡ true = ap (is_index_of shape) (sym (is 1)) ∙ inside 0 (omega arith) in
      let there : is_index_of shape (others ++ place (0 + j + 1) ∷ []) ≡ true = ap (is_index_of shape) (sym (is (0 + j + 1))) ∙ inside j h in
      let beside = places_in_row shape others (place 1) (place (0 + j + 1)) begin (row_end shape others (place (0 + j + 1)) there).low in
      rw (is (0 + j + 1), is 1) (omega (arith, next j))

  pub row_fits : 0 < count → places_before shape (at 1) + count ≤ size shape
  row_fits some =
      let last : count - 1 < count = omega arith in
      let below = places_below shape (at (0 + (count - 1) + 1)) (inside (count - 1) last) in
      let place = place_beside (count - 1) last in
      omega arith

-- ---- a row of evenly spaced items of an array

module _ (b : ArrayValue) (at : ℕ → List ℕ) (count step : ℕ)
    (inside : (i : ℕ) → 1 ≤ i → i ≤ count → is_index_of b.shape (at i) ≡ true)
    (stepped : (i : ℕ) → 1 ≤ i → i ≤ count → places_before b.shape (at i) ≡ places_before b.shape (at 1) + (i - 1) * step)
    (first : ℕ) (begins : first ≡ places_before b.shape (at 1)) where
  place_at : (j : ℕ) → j < count → places_before b.shape (at (0 + j + 1)) ≡ first + j * step
  place_at j h =
      let back : 0 + j + 1 - 1 ≡ j = omega arith in
      rw (back, ← begins) at (stepped (0 + j + 1) (omega arith) (omega arith))

  pub steps_inside : IsArray b → (k : ℕ) → k < count → first + k * step < length b.items
  steps_inside sound k h =
      let below = places_below b.shape (at (0 + k + 1)) (inside (0 + k + 1) (omega arith) (omega arith)) in
      omega (arith, place_at k h, sound.one_item_a_place)

  pub steps_row : (items : List Item) (rule : ℕ → Result Item Kind)
      → ((i : ℕ) → is_index_of b.shape (at i) ≡ true → rule i ≡ Ok (get_or b.items (places_before b.shape (at i)) (fill b.item_type)))
      → with_row items rule count ≡ Ok (items ++ listed count (λ k. get_or b.items (first + k * step) (fill b.item_type)))
  steps_row items rule given =
      with_row_more items items rule (λ k. get_or b.items (first + k * step) (fill b.item_type)) 0 count count (omega arith)
      (λ j h. given (0 + j + 1) (inside (0 + j + 1) (omega arith) (omega arith)) ∙ ap (λ k. Ok (get_or b.items k (fill b.item_type))) (place_at j h))
      (with_row_none items rule)

-- the last axis of a transposed array is the first one of the array
pub record TransposedRow (b : ArrayValue) (row : List ℕ) (count : ℕ) : Type 0 where
  pub axes : length b.shape ≡ length row + 1
  pub some : 0 < count
  pub inside : (i : ℕ) → 1 ≤ i → i ≤ count → is_index_of b.shape (reverse (row ++ i ∷ [])) ≡ true

pub transposed_row : (b : ArrayValue) (row : List ℕ) (count : ℕ) (item_type : ItemType) → IsRowIn (transpose_form b) row count item_type → TransposedRow b row count
transposed_row b row count item_type h =
    let known = (row_inside (reverse b.shape) b.item_type row count item_type h).row_of in
    let long = length-reverse b.shape in
    record {
      axes = omega (arith, known.long);
      some = known.some;
      inside = λ i low high. transpose_inside b (row ++ i ∷ []) (place_of_row (transpose_form b) row count item_type i h low high);
    }

pub last_first : (row : List ℕ) (i : ℕ) → reverse (row ++ i ∷ []) ≡ i ∷ reverse row
last_first row i = reverse-append row (i ∷ [])

-- the places of a row
pub place_stepped : (shape row : List ℕ) (i : ℕ) → length shape ≡ length row + 1 → 1 ≤ i
    → places_before shape (reverse (row ++ i ∷ [])) ≡ places_before shape (reverse (row ++ 1 ∷ [])) + (i - 1) * size (drop 1 shape)
place_stepped [] row i e low = absurd (omega arith)
place_stepped (n ∷ shape) row i e low = rw (last_first row i, last_first row 1) (omega arith)

-- the first axis of an array that has items
pub first_axis : (shape : List ℕ) → 0 < length shape → 0 < size shape → size shape / max (get_or shape 0 0) 1 ≡ size (drop 1 shape)
first_axis [] h some = absurd (omega arith)
first_axis (zero ∷ shape) h some = absurd (omega arith)
first_axis (suc n ∷ shape) h some = let longest : max (suc n) 1 ≡ suc n = omega arith in rw longest (mul-div_cancel_left (size shape) (omega arith))

-- a row of a transposed array
module _ (b : ArrayValue) (row : List ℕ) (count : ℕ) (item_type : ItemType) (h : IsRowIn (transpose_form b) row count item_type) (first : ℕ)
    (begins : first ≡ places_before b.shape (reverse (row ++ 1 ∷ []))) where
  abbrev of_row : TransposedRow b row count
  of_row = transposed_row b row count item_type h

  pub has_items : 0 < size b.shape
  has_items = let below = places_below b.shape (reverse (row ++ 1 ∷ [])) (of_row.inside 1 (omega arith) (omega (arith, of_row.some))) in omega arith

  pub transposed_steps : IsArray b → (k : ℕ) → k < count → first + k * size (drop 1 b.shape) < length b.items
  transposed_steps sound =
      steps_inside b (λ i. reverse (row ++ i ∷ [])) count (size (drop 1 b.shape)) of_row.inside (λ i low high. place_stepped b.shape row i of_row.axes low) first begins sound

  pub transposed_items : (items : List Item)
      → with_row items (λ i. transpose_item b (row ++ i ∷ [])) count ≡ Ok (items ++ listed count (λ k. get_or b.items (first + k * size (drop 1 b.shape)) (fill b.item_type)))
  transposed_items items =
      steps_row b (λ i. reverse (row ++ i ∷ [])) count (size (drop 1 b.shape)) of_row.inside (λ i low high. place_stepped b.shape row i of_row.axes low) first begins items
      (λ i. transpose_item b (row ++ i ∷ [])) (λ i there. left_placed b b (reverse (row ++ i ∷ [])) there)

-- ---- dyadic transpose

-- an index before the last
before_end : (xs : List ℕ) (x y k : ℕ) → (k ≡ length xs → ⊥) → get_or (xs ++ x ∷ []) k 0 ≡ get_or (xs ++ y ∷ []) k 0
before_end [] x y zero h = absurd (h refl)
before_end [] x y (suc k) h = refl
before_end (z ∷ xs) x y zero h = refl
before_end (z ∷ xs) x y (suc k) h = before_end xs x y k (λ e. h (ap suc e))

-- the axes that are left, and the stride of those before them
pub record StrideSoFar (shape axes : List ℕ) (r places stride total : ℕ) : Type 0 where
  pub some : 0 < size shape
  pub places_is : places ≡ size shape
  pub total_is : stride + stride_to shape axes r ≡ total

pub stride_begins : (shape axes : List ℕ) (r places : ℕ) → places ≡ size shape → 0 < size shape → StrideSoFar shape axes r places 0 (stride_to shape axes r)
stride_begins shape axes r places e some = record { some = some; places_is = e; total_is = omega arith }

factor_positive : (n s : ℕ) → 0 < n * s → 0 < s
factor_positive n zero h = absurd (omega arith)
factor_positive n (suc s) h = omega arith

pub stride_goes_on : (n : ℕ) (shape : List ℕ) (j : ℕ) (axes : List ℕ) (r places stride total : ℕ) → StrideSoFar (n ∷ shape) (j ∷ axes) r places stride total
    → StrideSoFar shape axes r (places / max n 1) (stride + cond (nat_eq (j - 1) r) (places / max n 1) 0) total
stride_goes_on n shape j axes r places stride total h =
    let whole : places / max n 1 ≡ size shape = rw h.places_is (first_axis (n ∷ shape) (omega arith) h.some) in
    record { some = factor_positive n (size shape) h.some; places_is = whole; total_is = rw whole (omega (arith, h.total_is)) }

pub stride_at : (shape axes : List ℕ) (k r places stride total : ℕ) → k < length shape → length axes ≡ length shape → StrideSoFar (drop k shape) (drop k axes) r places stride total
    → StrideSoFar (drop (k + 1) shape) (drop (k + 1) axes) r (places / max (get_or shape k 0) 1) (stride + cond (nat_eq (get_or axes k 0 - 1) r) (places / max (get_or shape k 0) 1) 0) total
stride_at shape axes k r places stride total h same so_far =
    stride_goes_on (get_or shape k 0) (drop (k + 1) shape) (get_or axes k 0) (drop (k + 1) axes) r places stride total (rw (drop_more shape k 0 h, drop_more axes k 0 (omega arith)) at so_far)

pub stride_chosen : (x r p stride new : ℕ) → (x ≡ r → new ≡ stride + p) → ((x ≡ r → ⊥) → new ≡ stride) → new ≡ stride + cond (nat_eq x r) p 0
stride_chosen x r p stride new same other = by_test (nat_eq x r) refl
  where
    by_test : (w : Bool) → nat_eq x r ≡ w → new ≡ stride + cond w p 0
    by_test true e = same (eqb-true x r e)
    by_test false e = let kept = other (eqb-false x r e) in omega arith

pub stride_ends : (shape axes : List ℕ) (k r places stride total : ℕ) → length shape ≤ k → StrideSoFar (drop k shape) (drop k axes) r places stride total → stride ≡ total
stride_ends shape axes k r places stride total h so_far =
    let e : stride + stride_to [] (drop k axes) r ≡ total = rw (drop_all k shape h) at so_far.total_is in
    omega arith

one_axis_more : (goes : Bool) (s p q t i x y : ℕ) → p ≡ q + (i - 1) * t → (goes ≡ true → (x ≡ i) × (y ≡ 1)) → (goes ≡ false → x ≡ y)
    → (x - 1) * s + p ≡ (y - 1) * s + q + (i - 1) * (cond goes s 0 + t)
one_axis_more true s p q t i x y e there else =
    let both = there refl in
    rw (both.0, both.1, e) (omega arith)
one_axis_more false s p q t i x y e there else = let same = else refl in rw (same, e) (omega arith)

gathered_steps : (shape axes row : List ℕ) (i : ℕ)
    → places_before shape (gathered axes (row ++ i ∷ [])) ≡ places_before shape (gathered axes (row ++ 1 ∷ [])) + (i - 1) * stride_to shape axes (length row)
gathered_steps [] axes row i = omega arith
gathered_steps (n ∷ shape) [] row i = omega arith
gathered_steps (n ∷ shape) (j ∷ axes) row i =
    one_axis_more (nat_eq (j - 1) (length row)) (size shape) (places_before shape (gathered axes (row ++ i ∷ []))) (places_before shape (gathered axes (row ++ 1 ∷ [])))
    (stride_to shape axes (length row)) i (get_or (row ++ i ∷ []) (j - 1) 0) (get_or (row ++ 1 ∷ []) (j - 1) 0) (gathered_steps shape axes row i)
    (λ e. let same = eqb-true (j - 1) (length row) e in (get_or_push row i 0 (j - 1) (sym same), get_or_push row 1 0 (j - 1) (sym same)))
    (λ e. before_end row i 1 (j - 1) (eqb-false (j - 1) (length row) e))

-- a row of an array transposed by axes
module _ (a b : ArrayValue) (row : List ℕ) (count : ℕ) (item_type : ItemType) (h : IsRowIn (transpose_by_form a b) row count item_type) (first step : ℕ)
    (begins : first ≡ places_before b.shape (gathered (axes_to a) (row ++ 1 ∷ []))) where
  abbrev index_at : ℕ → List ℕ
  index_at i = gathered (axes_to a) (row ++ i ∷ [])

  inside_at : (i : ℕ) → 1 ≤ i → i ≤ count → is_index_of b.shape (index_at i) ≡ true
  inside_at i low high = gathered_inside a b (row ++ i ∷ []) (place_of_row (transpose_by_form a b) row count item_type i h low high)

  pub has_places : 0 < size b.shape
  has_places = let some = row_some (transpose_by_form a b) row count item_type h in let below = places_below b.shape (index_at 1) (inside_at 1 (omega arith) some) in omega arith

  step_at : step ≡ stride_to b.shape (axes_to a) (length row) → (i : ℕ) → 1 ≤ i → i ≤ count → places_before b.shape (index_at i) ≡ places_before b.shape (index_at 1) + (i - 1) * step
  step_at e i low high = rw e (gathered_steps b.shape (axes_to a) row i)

  pub transposed_by_steps : step ≡ stride_to b.shape (axes_to a) (length row) → IsArray b → (k : ℕ) → k < count → first + k * step < length b.items
  transposed_by_steps e sound = steps_inside b index_at count step inside_at (step_at e) first begins sound

  pub transposed_by_items : step ≡ stride_to b.shape (axes_to a) (length row) → (items : List Item)
      → with_row items (λ i. transpose_by_item a b (row ++ i ∷ [])) count ≡ Ok (items ++ listed count (λ k. get_or b.items (first + k * step) (fill b.item_type)))
  transposed_by_items e items =
      steps_row b index_at count step inside_at (step_at e) first begins items (λ i. transpose_by_item a b (row ++ i ∷ [])) (λ i there. right_placed a b (index_at i) there)
