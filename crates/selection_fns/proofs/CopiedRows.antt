-- The rows of the copies of an array's places.
use Rattle.std.{proofs.Common.{◌≡◌, ℕ, ◌+◌, ◌-◌, ◌<◌, ◌≤◌, true, List, [], ◌∷◌, ◌++◌, length, get_or, set, Ok, ap, sym, subst, ◌∙◌, arith}, specs.Prelude.{max, sum}, proofs.lemmas.List.{length_push}}
use Rattle.arrays_core.{specs.Items.{fill}, specs.Arrays.{ArrayValue, IsArray}, specs.Shapes.{is_index_of, places_before}, specs.Building.{IsRowOf}, proofs.Shapes.{places_below}, proofs.Rows.{places_in_row}}
use Rattle.function_names.{specs.declared.along.Along.{Along}, specs.Axes.{axis_at}}
use Rattle.index_region.{specs.Answers.{IsPlaceOf}, specs.Axes.{places_along}, specs.Checks.{form_of}, specs.Sources.{Place, item_from}, proofs.Placed.{right_placed}, proofs.RowIndices.{set_before, get_before, set_last, get_last}}
use Rattle.selection_fns.{specs.Replicate.{times, copied_place, replicate_form, replicate_source, replicate_item}, specs.Laws.CopiedPlaces.{replicate_gives, exchanged_there}, proofs.Copies.{CopyFacts, copy_facts, copy_source}, proofs.SourcePlaces.{replicate_inside}}

-- a row of the copies of an array with axes, along its axis k
pub record IsCopyRow (along : Along) (a b : ArrayValue) (shape before row : List ℕ) (count k : ℕ) : Type 0 where
  pub some : 0 < length b.shape
  pub axis : k ≡ axis_at (length b.shape) along
  pub form : replicate_form along a b ≡ Ok (form_of shape b.item_type)
  pub long : length before ≡ sum (times a (places_along b.shape (axis_at (max 1 (length b.shape)) along)))
  pub is : (i : ℕ) → i < length before → get_or before i 0 + 1 ≡ copied_place a (places_along b.shape (axis_at (max 1 (length b.shape)) along)) (i + 1)
  pub row_of : IsRowOf shape row count

module _ (along : Along) (a b : ArrayValue) (shape before row : List ℕ) (count k : ℕ) (r : IsCopyRow along a b shape before row count k) where
  -- the source of a copy, as an index list
  abbrev pub copied : ℕ → List ℕ
  copied i = set (row ++ i ∷ []) k (get_or before (get_or (row ++ i ∷ []) k 0 - 1) 0 + 1)

  abbrev first : ℕ
  first = places_before b.shape (copied 1)

  facts : (i : ℕ) → 1 ≤ i → i ≤ count → CopyFacts along a b (row ++ i ∷ []) k
  facts i low high = copy_facts along a b shape b.item_type (row ++ i ∷ []) k r.some r.form (r.row_of.places i low high) r.axis

  ranked : k ≡ axis_at (max 1 (length b.shape)) along
  ranked = let some = r.row_of.some in (facts 1 (omega arith) (omega arith)).axis

  source : (i : ℕ) → 1 ≤ i → i ≤ count → Place 1 (copied i) ≡ replicate_source along a b (row ++ i ∷ [])
  source i low high =
      copy_source along a b (row ++ i ∷ []) before k r.some (facts i low high)
      (r.long ∙ ap (λ m. sum (times a (places_along b.shape m))) (sym ranked))
      (subst (λ m. (i : ℕ) → i < length before → get_or before i 0 + 1 ≡ copied_place a (places_along b.shape m) (i + 1)) (sym ranked) r.is)

  -- the index list of the first copy of a row
  pub first_copied : (at : List ℕ) → Place 1 at ≡ replicate_source along a b (row ++ 1 ∷ []) → at ≡ copied 1
  first_copied at h =
      let same : Place 1 at ≡ Place 1 (copied 1) = h ∙ sym (source 1 (omega arith) (omega arith)) in
      cc

  inside : (i : ℕ) → 1 ≤ i → i ≤ count → is_index_of b.shape (copied i) ≡ true
  inside i low high =
      replicate_inside along a b (row ++ i ∷ []) (copied i) (source i low high) (subst (λ f. IsPlaceOf f (row ++ i ∷ [])) (sym r.form) (r.row_of.places i low high))

  item_at : (j n : ℕ) → j < count → places_before b.shape (copied (0 + j + 1)) ≡ n → replicate_item along a b (row ++ (0 + j + 1) ∷ []) ≡ Ok (get_or b.items n (fill b.item_type))
  item_at j n h e =
      ap (item_from a b b.item_type) (sym (source (0 + j + 1) (omega arith) (omega arith)))
      ∙ right_placed a b (copied (0 + j + 1)) (inside (0 + j + 1) (omega arith) (omega arith))
      ∙ ap (λ m. Ok (get_or b.items m (fill b.item_type))) e

  -- an axis that is not the last is before it
  pub before_last : (k ≡ length row → ⊥) → k < length row
  before_last not_last =
      let first_facts = facts 1 (omega arith) (omega arith) in
      let long : length b.shape ≡ length row + 1 = sym first_facts.copied.long ∙ length_push row 1 in
      omega (arith, first_facts.below, not_last)

  -- along another axis a row is a row of the array
  module _ (other : k < length row) where
    abbrev others : List ℕ
    others = set row k (get_or before (get_or row k 0 - 1) 0 + 1)

    at_other : (i : ℕ) → copied i ≡ others ++ i ∷ []
    at_other i =
        set_before row i k (get_or before (get_or (row ++ i ∷ []) k 0 - 1) 0 + 1) other
        ∙ ap (λ n. set row k (get_or before (n - 1) 0 + 1) ++ i ∷ []) (get_before row i k 0 other)

    place_other : (j : ℕ) → j < count → places_before b.shape (copied (0 + j + 1)) ≡ first + j
    place_other j h =
        let beside = places_in_row b.shape others 1 (0 + j + 1) (ap (is_index_of b.shape) (sym (at_other 1)) ∙ inside 1 (omega arith) (omega arith)) (omega arith) in
        let now : first ≡ places_before b.shape (others ++ 1 ∷ []) = ap (places_before b.shape) (at_other 1) in
        let then : places_before b.shape (copied (0 + j + 1)) ≡ places_before b.shape (others ++ (0 + j + 1) ∷ []) = ap (places_before b.shape) (at_other (0 + j + 1)) in
        omega arith

    pub other_item : (j : ℕ) → j < count → replicate_item along a b (row ++ (0 + j + 1) ∷ []) ≡ Ok (get_or b.items (first + j) (fill b.item_type))
    other_item j h = item_at j (first + j) h (place_other j h)

    pub other_fits : IsArray b → first + count ≤ length b.items
    other_fits sound =
        let some = r.row_of.some in
        let last : count - 1 < count = omega arith in
        let below = places_below b.shape (copied (0 + (count - 1) + 1)) (inside (0 + (count - 1) + 1) (omega arith) (omega arith)) in
        omega (arith, place_other (count - 1) last, sound.one_item_a_place)

  -- along the last axis a row has the copies of the places of one row
  module _ (last_axis : k ≡ length row) where
    at_last : (i : ℕ) → copied i ≡ row ++ (get_or before (i - 1) 0 + 1) ∷ []
    at_last i =
        ap (λ m. set (row ++ i ∷ []) m (get_or before (get_or (row ++ i ∷ []) m 0 - 1) 0 + 1)) last_axis
        ∙ set_last row i (get_or before (get_or (row ++ i ∷ []) (length row) 0 - 1) 0 + 1)
        ∙ ap (λ m. row ++ (get_or before (m - 1) 0 + 1) ∷ []) (get_last row i 0)

    -- there are as many copies as the row has places
    pub as_many : length before ≡ count
    as_many =
        let known = replicate_gives along a b shape b.item_type r.form in
        r.long
        ∙ sym (exchanged_there along b.shape (sum (times a (places_along b.shape (axis_at (max 1 (length b.shape)) along)))) known.axis).is
        ∙ ap (λ s. get_or s (axis_at (max 1 (length b.shape)) along) 0) (sym known.shaped)
        ∙ ap (λ m. get_or shape m 0) (sym ranked ∙ last_axis)
        ∙ r.row_of.whole

    abbrev pub start : ℕ
    start = places_before b.shape (row ++ 1 ∷ [])

    place_last : (j : ℕ) → j < count → places_before b.shape (copied (0 + j + 1)) ≡ start + get_or before j 0
    place_last j h =
        let here = at_last (0 + j + 1) ∙ ap (λ n. row ++ (get_or before n 0 + 1) ∷ []) (omega arith) in
        let there : is_index_of b.shape (row ++ (get_or before j 0 + 1) ∷ []) ≡ true = ap (is_index_of b.shape) (sym here) ∙ inside (0 + j + 1) (omega arith) (omega arith) in
        let beside : start + (get_or before j 0 + 1) ≡ places_before b.shape (row ++ (get_or before j 0 + 1) ∷ []) + 1 = places_in_row b.shape row (get_or before j 0 + 1) 1 there (omega arith) in
        let then : places_before b.shape (copied (0 + j + 1)) ≡ places_before b.shape (row ++ (get_or before j 0 + 1) ∷ []) = ap (places_before b.shape) here in
        omega arith

    pub first_before : first ≡ start + get_or before 0 0
    first_before = let some = r.row_of.some in place_last 0 (omega arith)

    pub last_item : (j : ℕ) → j < count → replicate_item along a b (row ++ (0 + j + 1) ∷ []) ≡ Ok (get_or b.items (first - get_or before 0 0 + get_or before j 0) (fill b.item_type))
    last_item j h = item_at j (first - get_or before 0 0 + get_or before j 0) h (let e = first_before in let place = place_last j h in omega arith)

    pub last_fits : IsArray b → (j : ℕ) → j < length before → first - get_or before 0 0 + get_or before j 0 < length b.items
    last_fits sound j h =
        let e = first_before in
        let below : j < count = omega (arith, as_many) in
        omega (arith, place_last j below, places_below b.shape (copied (0 + j + 1)) (inside (0 + j + 1) (omega arith) (omega arith)), sound.one_item_a_place)
