-- The rows of a result of reverse.
use Rattle.std.{proofs.Common.{◌≡◌, ℕ, suc, ◌+◌, ◌-◌, ◌<◌, ◌≤◌, true, List, [], ◌∷◌, ◌++◌, length, get_or, set, Ok, ap, sym, ◌∙◌, arith}, proofs.lemmas.List.{get_or_default}}
use Rattle.arrays_core.{specs.Items.{fill}, specs.Arrays.{ArrayValue, IsArray}, specs.Shapes.{is_index_of, places_before}, specs.Building.{IsRowOf}, proofs.Rows.{places_in_row}, proofs.Shapes.{places_below}}
use Rattle.index_region.{specs.Checks.{form_of}, specs.Axes.{places_along}, proofs.Passing.{gives}, proofs.Placed.{left_placed}, proofs.OnAxes.{OnAxis, on_axis}, proofs.RowIndices.{set_before, get_before, set_last, get_last, axis_below}}
use Rattle.function_names.{specs.Axes.{is_axis, axis_at}, specs.declared.along.Along.{Along}}
use Rattle.structural_fns.{specs.Reverse.{reverse_form, reverse_item}, proofs.SourcePlaces.{reversed_inside}, proofs.SteppedRows.{place_beside, row_fits}}

-- a row of the array that is reversed along this axis
module _ (along : Along) (b : ArrayValue) (row : List ℕ) (count : ℕ) (passed : reverse_form along b ≡ Ok (form_of b.shape b.item_type)) (row_of : IsRowOf b.shape row count) where
  abbrev pub axis : ℕ
  axis = axis_at (length b.shape) along

  abbrev pub at_index : ℕ → List ℕ
  at_index i = set (row ++ i ∷ []) axis (suc (places_along b.shape axis) - get_or (row ++ i ∷ []) axis 1)

  abbrev first : ℕ
  first = places_before b.shape (at_index 1)

  pub inside_at : (j : ℕ) → j < count → is_index_of b.shape (at_index (0 + j + 1)) ≡ true
  inside_at j h = reversed_inside b.shape (row ++ (0 + j + 1) ∷ []) axis (row_of.places (0 + j + 1) (omega arith) (omega arith))

  item_at : (j k : ℕ) → j < count → places_before b.shape (at_index (0 + j + 1)) ≡ k → reverse_item along b (row ++ (0 + j + 1) ∷ []) ≡ Ok (get_or b.items k (fill b.item_type))
  item_at j k h e = left_placed b b (at_index (0 + j + 1)) (inside_at j h) ∙ ap (λ n. Ok (get_or b.items n (fill b.item_type))) e

  -- an axis that is not the last is before it
  pub below_last : (k : ℕ) → k ≡ axis → (k ≡ length row → ⊥) → axis < length row
  below_last k e not_last =
      let below = axis_below (length b.shape) along (gives (is_axis (length b.shape) along) _ _ _ passed).test (omega (arith, row_of.long)) in
      omega (arith, row_of.long)

  -- along another axis a row is a row of the array
  module _ (other : axis < length row) where
    -- the index of the row on the axis, and the index that it is turned to
    pub other_on : OnAxis (get_or b.shape axis 0) (get_or row axis 0)
    other_on =
        let on = on_axis b.shape (row ++ 1 ∷ []) axis (row_of.places 1 (omega arith) row_of.some) (omega (arith, row_of.long)) in
        let is = get_before row 1 axis 0 other in
        record { low = omega (arith, on.low); high = omega (arith, on.high) }

    pub other_list : set (row ++ 1 ∷ []) axis (get_or b.shape axis 0 - (get_or row axis 0 - 1)) ≡ at_index 1
    other_list =
        let axis_long : places_along b.shape axis ≡ get_or b.shape axis 0 = get_or_default b.shape axis 1 0 (omega (arith, row_of.long)) in
        let index : get_or (row ++ 1 ∷ []) axis 1 ≡ get_or row axis 0 = get_before row 1 axis 1 other ∙ get_or_default row axis 1 0 other in
        ap (λ i. set (row ++ 1 ∷ []) axis i) (omega (arith, axis_long, index, other_on.low))

    abbrev others : List ℕ
    others = set row axis (suc (places_along b.shape axis) - get_or row axis 1)

    at_other : (i : ℕ) → at_index i ≡ others ++ i ∷ []
    at_other i =
        set_before row i axis (suc (places_along b.shape axis) - get_or (row ++ i ∷ []) axis 1) other
        ∙ ap (λ n. set row axis (suc (places_along b.shape axis) - n) ++ i ∷ []) (get_before row i axis 1 other)

    pub other_item : (j : ℕ) → j < count → reverse_item along b (row ++ (0 + j + 1) ∷ []) ≡ Ok (get_or b.items (first + j) (fill b.item_type))
    other_item j h = item_at j (first + j) h (place_beside b.shape at_index others (λ i. i) count inside_at at_other (λ k. omega arith) j h)

    pub other_fits : IsArray b → first + count ≤ length b.items
    other_fits sound = let fits = row_fits b.shape at_index others (λ i. i) count inside_at at_other (λ k. omega arith) row_of.some in omega (arith, sound.one_item_a_place)

  -- along the last axis it is a row of the array, read backwards
  module _ (last_axis : axis ≡ length row) where
    at_last : (i : ℕ) → at_index i ≡ row ++ (suc count - i) ∷ []
    at_last i =
        ap (λ k. set (row ++ i ∷ []) k (suc (places_along b.shape k) - get_or (row ++ i ∷ []) k 1)) last_axis
        ∙ set_last row i (suc (places_along b.shape (length row)) - get_or (row ++ i ∷ []) (length row) 1)
        ∙ ap (λ m. row ++ (suc m - get_or (row ++ i ∷ []) (length row) 1) ∷ []) (get_or_default b.shape (length row) 1 0 (omega (arith, row_of.long)) ∙ row_of.whole)
        ∙ ap (λ m. row ++ (suc count - m) ∷ []) (get_last row i 1)

    place_last : (j : ℕ) → j < count → places_before b.shape (at_index (0 + j + 1)) + j ≡ first
    place_last j h =
        let same : suc count - 1 ≡ count = omega arith in
        let begin : is_index_of b.shape (row ++ count ∷ []) ≡ true = ap (λ n. is_index_of b.shape (row ++ n ∷ [])) (sym same) ∙ ap (is_index_of b.shape) (sym (at_last 1)) ∙ inside_at 0 (omega arith) in
        let beside = places_in_row b.shape row count (suc count - (0 + j + 1)) begin (omega arith) in
        let then : places_before b.shape (at_index (0 + j + 1)) ≡ places_before b.shape (row ++ (suc count - (0 + j + 1)) ∷ []) = ap (places_before b.shape) (at_last (0 + j + 1)) in
        let here : first ≡ places_before b.shape (row ++ count ∷ []) = (ap (places_before b.shape) (at_last 1)) ∙ ap (λ n. places_before b.shape (row ++ n ∷ [])) same in
        omega arith

    pub last_item : (j : ℕ) → j < count → reverse_item along b (row ++ (0 + j + 1) ∷ []) ≡ Ok (get_or b.items (first - j) (fill b.item_type))
    last_item j h = item_at j (first - j) h (let e = place_last j h in omega arith)

    -- the last place of the row in the array
    pub last_place : places_before b.shape (row ++ 1 ∷ []) + (count - 1) ≡ first
    last_place =
        let beside = places_in_row b.shape row 1 count (row_of.places 1 (omega arith) row_of.some) row_of.some in
        let same : suc count - 1 ≡ count = omega arith in
        let here : first ≡ places_before b.shape (row ++ count ∷ []) = ap (places_before b.shape) (at_last 1) ∙ ap (λ n. places_before b.shape (row ++ n ∷ [])) same in
        omega (arith, row_of.some)

    pub last_fits : IsArray b → places_before b.shape (row ++ 1 ∷ []) + (count - 1) < length b.items
    last_fits sound = let below = places_below b.shape (at_index 1) (inside_at 0 row_of.some) in omega (arith, last_place, sound.one_item_a_place)
