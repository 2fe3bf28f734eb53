-- The rows of a result of rotate.
use Rattle.std.{proofs.Common.{◌≡◌, ℕ, zero, suc, pos, negsuc, ◌+◌, ◌-◌, ◌*◌, ◌/◌, ◌%◌, ◌<◌, ◌≤◌, ◌⊎◌, inl, inr, ℤ, ◌+ℤ◌, ◌-ℤ◌, unsigned_abs, nat_eq, ◌||◌, bytes_eq, if◌then◌else◌, true, List, [], ◌∷◌, ◌++◌, length, get_or, set, remove, Ok, ap, sym, subst, ◌∙◌, arith}, specs.Int.{int_rem_euclid}}
use Rattle.std.{proofs.lemmas.Bool.{cases_lt, eq-eqb}, proofs.lemmas.Int.{ints}, proofs.lemmas.List.{get_or_default, get_or-map}, proofs.lemmas.Nat.{mod-mul-add}}
use Rattle.arrays_core.{specs.declared.item.ItemType.{ItemType}, specs.Items.{fill}, specs.Arrays.{ArrayValue, IsArray}, specs.Shapes.{size, is_index_of, places_before}, proofs.Shapes.{places_below}, proofs.Rows.{places_in_row}}
use Rattle.{scalar_fns.specs.ScalarExtension.{extended}, function_names.{specs.declared.along.Along.{Along}, specs.Axes.{is_axis, axis_at}}}
use Rattle.index_region.{specs.Answers.{IsRowIn}, specs.Arguments.{has_one_item, counts_as_numbers, number_of, numbers}, specs.Axes.{places_along}, proofs.Passing.{RowInside, row_passed, row_inside}, proofs.Placed.{right_placed}, proofs.OnAxes.{OnAxis, on_axis}, proofs.RowIndices.{set_before, get_before, set_last, get_last, remove_last, axis_below}}
use Rattle.structural_fns.{specs.Rotate.{rotate_form, rotate_item, rotated_place, rotation}, proofs.SourcePlaces.{rotated_inside}, proofs.SteppedRows.{place_beside, row_fits}, proofs.Turning.{residue_euclid}}

-- ---- the place after a place, counted round the end of an axis

next_mod_of : (q r n a : ℕ) → r < n → a ≡ q * n + r → a % n ≡ r
next_mod_of q r n a below e = ap (λ m. m % n) e ∙ mod-mul-add q n r below

next_mod : (a n : ℕ) → 0 < n → ((a + 1) % n ≡ a % n + 1) × (a % n + 1 < n) ⊎ ((a + 1) % n ≡ 0) × (a % n + 1 ≡ n)
next_mod a n some =
    elim (cases_lt (a % n + 1) n) [
      | inl less ↦ inl (next_mod_of (a / n) (a % n + 1) n (a + 1) less (omega arith), less)
      | inr more ↦
          inr (next_mod_of (a / n + 1) 0 n (a + 1) some (omega arith), omega arith)
    ]

-- the place of a number that is counted round the end of an axis of n places, and of the next number
record NextPlace (n p q : ℕ) : Type 0 where
  low : 1 ≤ p
  high : p ≤ n
  inside : p < n → q ≡ p + 1
  around : p ≡ n → q ≡ 1

next_positive : (n a : ℕ) → 0 < n → NextPlace n (suc (a % n)) (suc ((a + 1) % n))
next_positive n a some =
    elim (next_mod a n some) [
      | inl less ↦ record { low = omega arith; high = omega arith; inside = λ h. omega (arith, less.0); around = λ e. absurd (omega (arith, less.1)) }
      | inr last ↦ record { low = omega arith; high = omega arith; inside = λ h. absurd (omega (arith, last.1)); around = λ e. omega (arith, last.0) }
    ]

next_negative : (n a : ℕ) → 0 < n → NextPlace n (suc (n - 1 - (a + 1) % n)) (suc (n - 1 - a % n))
next_negative n a some =
    elim (next_mod a n some) [
      | inl less ↦ record { low = omega arith; high = omega arith; inside = λ h. omega (arith, less.0, less.1); around = λ e. absurd (omega (arith, less.0, less.1)) }
      | inr last ↦ record { low = omega arith; high = omega arith; inside = λ h. absurd (omega (arith, last.0)); around = λ e. omega (arith, last.0, last.1) }
    ]

next_euclid : (n : ℕ) (z : ℤ) → 0 < n → NextPlace n (suc (unsigned_abs (int_rem_euclid z (pos n)))) (suc (unsigned_abs (int_rem_euclid (z +ℤ pos 1) (pos n))))
next_euclid n (pos a) some =
    let next : pos a +ℤ pos 1 ≡ pos (a + 1) = omega (arith, ints) in
    subst (λ w. NextPlace n (suc (a % n)) (suc (unsigned_abs (int_rem_euclid w (pos n))))) (sym next) (next_positive n a some)
next_euclid n (negsuc zero) some =
    let next : negsuc zero +ℤ pos 1 ≡ pos 0 = omega (arith, ints) in
    let here : NextPlace n (suc (n - 1 - 0 % n)) (suc (0 % n)) = record { low = omega arith; high = omega arith; inside = λ h. absurd (omega arith); around = λ e. omega arith } in
    subst (λ w. NextPlace n (suc (n - 1 - 0 % n)) (suc (unsigned_abs (int_rem_euclid w (pos n))))) (sym next) here
next_euclid n (negsuc (suc a)) some =
    let next : negsuc (suc a) +ℤ pos 1 ≡ negsuc a = omega (arith, ints) in
    let one : a + 1 ≡ suc a = omega arith in
    let here : NextPlace n (suc (n - 1 - suc a % n)) (suc (n - 1 - a % n)) = subst (λ m. NextPlace n (suc (n - 1 - m % n)) (suc (n - 1 - a % n))) one (next_negative n a some) in
    subst (λ w. NextPlace n (suc (n - 1 - suc a % n)) (suc (unsigned_abs (int_rem_euclid w (pos n))))) (sym next) here

next_place : (n : ℕ) (amount : ℤ) (i : ℕ) → 0 < n → NextPlace n (rotated_place n amount i) (rotated_place n amount (i + 1))
next_place n amount i some =
    let z = (pos i +ℤ amount) -ℤ pos 1 in
    let next : (pos (i + 1) +ℤ amount) -ℤ pos 1 ≡ z +ℤ pos 1 = omega (arith, ints) in
    rw (next, residue_euclid n z some, residue_euclid n (z +ℤ pos 1) some) (next_euclid n z some)

-- the places of a row: from the first one to the end, then from 1
pub record Turned (n p q j : ℕ) : Type 0 where
  pub low : 1 ≤ q
  pub high : q ≤ n
  pub inside : p + j ≤ n → q ≡ p + j
  pub around : n < p + j → q + n ≡ p + j

pub turned : (n : ℕ) (amount : ℤ) (j : ℕ) → 0 < n → j < n → Turned n (rotated_place n amount 1) (rotated_place n amount (0 + j + 1)) j
turned n amount zero some h =
    let here = next_place n amount 1 some in
    let one : 0 + zero + 1 ≡ 1 = omega arith in
    rw one (record { low = here.low; high = here.high; inside = λ e. omega arith; around = λ e. absurd (omega (arith, here.high)) })
turned n amount (suc j) some h =
    let before = turned n amount j some (omega arith) in
    let next = next_place n amount (0 + j + 1) some in
    let later = next_place n amount (0 + j + 1 + 1) some in
    let one : 0 + suc j + 1 ≡ 0 + j + 1 + 1 = omega arith in
    let first = next_place n amount 1 some in
    rw one (step (rotated_place n amount 1) (rotated_place n amount (0 + j + 1)) (rotated_place n amount (0 + j + 1 + 1)) first.high first.low before next later.low later.high)
  where
    step : (p q r : ℕ) → p ≤ n → 1 ≤ p → Turned n p q j → NextPlace n q r → 1 ≤ r → r ≤ n → Turned n p r (suc j)
    step p q r high low before next above below = record {
      low = above;
      high = below;
      inside = λ e. (let same = before.inside (omega arith) in let more = next.inside (omega arith) in omega arith);
      around = λ e. elim (cases_lt n (p + j)) [
        | inl beyond ↦ (let same = before.around beyond in let more = next.inside (omega arith) in omega arith)
        | inr end ↦ (let same = before.inside end in let more = next.around (omega arith) in omega arith)
      ];
    }

-- ---- the items of a row

-- a row along the last axis is a line from a place on, followed by the items in front of that place
pub record TurnedLine (along : Along) (a b : ArrayValue) (row : List ℕ) (count first from : ℕ) : Type 0 where
  pub low : 1 ≤ from
  pub high : from ≤ count
  pub there : from - 1 ≤ first
  pub fits : first + (count - (from - 1)) ≤ length b.items
  pub end_item : (j : ℕ) → j < count - (from - 1) → rotate_item along a b (row ++ (0 + j + 1) ∷ []) ≡ Ok (get_or b.items (first + j) (fill b.item_type))
  pub begin_item : (j : ℕ) → j < from - 1 → rotate_item along a b (row ++ (count - (from - 1) + j + 1) ∷ []) ≡ Ok (get_or b.items (first - (from - 1) + j) (fill b.item_type))

one_amount : (axis : ℕ) (a : ArrayValue) (index : List ℕ) → size a.shape ≡ 1 → rotation axis a index ≡ number_of (get_or a.items 0 (fill a.item_type))
one_amount axis a index e = ap (λ w. number_of (get_or a.items (if w then 0 else places_before a.shape (remove index axis)) (fill a.item_type))) (eq-eqb (size a.shape) 1 e)

-- the index that moves to an index, by the places that the amount moves the first one
pub turned_from : (n turn : ℕ) (amount : ℤ) (i : ℕ) → 1 ≤ i → i ≤ n → suc turn ≡ rotated_place n amount 1 → Turned n (suc turn) (rotated_place n amount i) (i - 1)
turned_from n turn amount i low high e =
    let same : 0 + (i - 1) + 1 ≡ i = omega arith in
    rw e (subst (λ j. Turned n (rotated_place n amount 1) (rotated_place n amount j) (i - 1)) same (turned n amount (i - 1) (omega arith) (omega arith)))

pub turn_below : (n turn : ℕ) (amount : ℤ) → 0 < n → suc turn ≡ rotated_place n amount 1 → turn < n
turn_below n turn amount some e = omega (arith, (next_place n amount 1 some).high)

one_number : (a : ArrayValue) → IsArray a → size a.shape ≡ 1 → get_or (numbers a) 0 (pos 0) ≡ number_of (get_or a.items 0 (fill a.item_type))
one_number a sound one = get_or-map number_of a.items 0 (fill a.item_type) (pos 0) (omega (arith, sound.one_item_a_place))

-- a row of lines that have one amount
pub amount_of : (axis : ℕ) (a : ArrayValue) (index : List ℕ) → IsArray a → size a.shape ≡ 1 → rotation axis a index ≡ get_or (numbers a) 0 (pos 0)
amount_of axis a index sound one = one_amount axis a index one ∙ sym (one_number a sound one)

module _ (along : Along) (a b : ArrayValue) (row : List ℕ) (count : ℕ) (item_type : ItemType) (is : IsRowIn (rotate_form along a b) row count item_type) where
  abbrev pub axis : ℕ
  axis = axis_at (length b.shape) along

  abbrev pub at_index : ℕ → List ℕ
  at_index i = set (row ++ i ∷ []) axis (rotated_place (places_along b.shape axis) (rotation axis a (row ++ i ∷ [])) (get_or (row ++ i ∷ []) axis 1))

  abbrev first : ℕ
  first = places_before b.shape (at_index 1)

  pub passed_row : RowInside b.shape b.item_type item_type row count
  passed_row =
      let on_axis = row_passed (is_axis (length b.shape) along) _ _ row count item_type is in
      let ranks = row_passed (has_one_item a || nat_eq (suc (length a.shape)) (length b.shape)) _ _ row count item_type on_axis.row_in in
      let shapes = row_passed (has_one_item a || bytes_eq a.shape (remove b.shape axis)) _ _ row count item_type ranks.row_in in
      row_inside b.shape b.item_type row count item_type (row_passed (counts_as_numbers a) _ _ row count item_type shapes.row_in).row_in

  pub inside_at : (j : ℕ) → j < count → is_index_of b.shape (at_index (0 + j + 1)) ≡ true
  inside_at j h =
      rotated_inside b.shape (row ++ (0 + j + 1) ∷ []) axis (rotation axis a (row ++ (0 + j + 1) ∷ [])) (passed_row.row_of.places (0 + j + 1) (omega arith) (omega arith))

  pub item_at : (j k : ℕ) → j < count → places_before b.shape (at_index (0 + j + 1)) ≡ k → rotate_item along a b (row ++ (0 + j + 1) ∷ []) ≡ Ok (get_or b.items k (fill b.item_type))
  item_at j k h e = right_placed a b (at_index (0 + j + 1)) (inside_at j h) ∙ ap (λ n. Ok (get_or b.items n (fill b.item_type))) e

  pub below_last : (axis ≡ length row → ⊥) → axis < length row
  below_last not_last =
      let checked = row_passed (is_axis (length b.shape) along) _ _ row count item_type is in
      let below = axis_below (length b.shape) along checked.test (omega (arith, passed_row.row_of.long)) in
      omega (arith, passed_row.row_of.long)

  -- across lines that have one amount a row is a row of the array
  module _ (not_last : axis ≡ length row → ⊥) (one : size a.shape ≡ 1) where
    abbrev others : List ℕ
    others = set row axis (rotated_place (places_along b.shape axis) (number_of (get_or a.items 0 (fill a.item_type))) (get_or row axis 1))

    at_other : (i : ℕ) → at_index i ≡ others ++ i ∷ []
    at_other i =
        ap (λ z. set (row ++ i ∷ []) axis (rotated_place (places_along b.shape axis) z (get_or (row ++ i ∷ []) axis 1))) (one_amount axis a (row ++ i ∷ []) one)
        ∙ set_before row i axis (rotated_place (places_along b.shape axis) (number_of (get_or a.items 0 (fill a.item_type))) (get_or (row ++ i ∷ []) axis 1)) (below_last not_last)
        ∙ ap (λ n. set row axis (rotated_place (places_along b.shape axis) (number_of (get_or a.items 0 (fill a.item_type))) n) ++ i ∷ []) (get_before row i axis 1 (below_last not_last))

    -- the index of the row on the axis, and the first index list in the array
    pub other_on : OnAxis (get_or b.shape axis 0) (get_or row axis 0)
    other_on =
        let on = on_axis b.shape (row ++ 1 ∷ []) axis (passed_row.row_of.places 1 (omega arith) passed_row.row_of.some) (omega (arith, passed_row.row_of.long, below_last not_last)) in
        let is = get_before row 1 axis 0 (below_last not_last) in
        record { low = omega (arith, on.low); high = omega (arith, on.high) }

    pub other_list : IsArray a → (index : ℕ) → index ≡ rotated_place (places_along b.shape axis) (get_or (numbers a) 0 (pos 0)) (get_or row axis 0) → set (row ++ 1 ∷ []) axis index ≡ at_index 1
    other_list sound index e =
        let here : get_or (row ++ 1 ∷ []) axis 1 ≡ get_or row axis 0 = get_before row 1 axis 1 (below_last not_last) ∙ get_or_default row axis 1 0 (below_last not_last) in
        ap (set (row ++ 1 ∷ []) axis) (e ∙ ap (λ i. rotated_place (places_along b.shape axis) (get_or (numbers a) 0 (pos 0)) i) (sym here)
        ∙ ap (λ z. rotated_place (places_along b.shape axis) z (get_or (row ++ 1 ∷ []) axis 1)) (sym (amount_of axis a (row ++ 1 ∷ []) sound one)))

    pub other_item : (j : ℕ) → j < count → rotate_item along a b (row ++ (0 + j + 1) ∷ []) ≡ Ok (get_or b.items (first + j) (fill b.item_type))
    other_item j h = item_at j (first + j) h (place_beside b.shape at_index others (λ i. i) count inside_at at_other (λ k. omega arith) j h)

    pub other_fits : IsArray b → first + count ≤ length b.items
    other_fits sound = let fits = row_fits b.shape at_index others (λ i. i) count inside_at at_other (λ k. omega arith) passed_row.row_of.some in omega (arith, sound.one_item_a_place)

  -- along the last axis it is a line from some place on, followed by its beginning
  module _ (last_axis : axis ≡ length row) where
    abbrev amount : ℤ
    amount = number_of (extended a row)

    abbrev from : ℕ
    from = rotated_place count amount 1

    at_last : (i : ℕ) → at_index i ≡ row ++ rotated_place count amount i ∷ []
    at_last i =
        let n : places_along b.shape (length row) ≡ count = get_or_default b.shape (length row) 1 0 (omega (arith, passed_row.row_of.long)) ∙ passed_row.row_of.whole in
        ap (λ k. set (row ++ i ∷ []) k (rotated_place (places_along b.shape k) (rotation k a (row ++ i ∷ [])) (get_or (row ++ i ∷ []) k 1))) last_axis
        ∙ set_last row i (rotated_place (places_along b.shape (length row)) (rotation (length row) a (row ++ i ∷ [])) (get_or (row ++ i ∷ []) (length row) 1))
        ∙ ap (λ m. row ++ rotated_place m (rotation (length row) a (row ++ i ∷ [])) (get_or (row ++ i ∷ []) (length row) 1) ∷ []) n
        ∙ ap (λ m. row ++ rotated_place count (rotation (length row) a (row ++ i ∷ [])) m ∷ []) (get_last row i 1)
        ∙ ap (λ xs. row ++ rotated_place count (number_of (extended a xs)) i ∷ []) (remove_last row i)

    turn : (j : ℕ) → j < count → Turned count from (rotated_place count amount (0 + j + 1)) j
    turn j h = turned count amount j (omega arith) h

    beside : (j : ℕ) → j < count → places_before b.shape (at_index (0 + j + 1)) + from ≡ first + rotated_place count amount (0 + j + 1)
    beside j h =
        let t = turn j h in
        let pair = places_in_row b.shape row from (rotated_place count amount (0 + j + 1)) (ap (is_index_of b.shape) (sym (at_last 1)) ∙ inside_at 0 (omega arith)) t.low in
        let now : first ≡ places_before b.shape (row ++ from ∷ []) = ap (places_before b.shape) (at_last 1) in
        let later : places_before b.shape (at_index (0 + j + 1)) ≡ places_before b.shape (row ++ rotated_place count amount (0 + j + 1) ∷ []) = ap (places_before b.shape) (at_last (0 + j + 1)) in
        omega arith

    from_low : 1 ≤ from
    from_low = (next_place count amount 1 passed_row.row_of.some).low

    from_high : from ≤ count
    from_high = (next_place count amount 1 passed_row.row_of.some).high

    end_item : (j : ℕ) → j < count - (from - 1) → rotate_item along a b (row ++ (0 + j + 1) ∷ []) ≡ Ok (get_or b.items (first + j) (fill b.item_type))
    end_item j h =
        let low = from_low in
        let t = turn j (omega arith) in
        let pair = beside j (omega arith) in
        let same = t.inside (omega arith) in
        item_at j (first + j) (omega arith) (omega arith)

    begin_there : from - 1 ≤ first
    begin_there =
        let low = from_low in
        let high = from_high in
        let place : first ≡ places_before b.shape (row ++ from ∷ []) = ap (places_before b.shape) (at_last 1) in
        let pair = places_in_row b.shape row from 1 (ap (is_index_of b.shape) (sym (at_last 1)) ∙ inside_at 0 (omega (arith, passed_row.row_of.some))) (omega arith) in
        omega arith

    begin_item : (j : ℕ) → j < from - 1 → rotate_item along a b (row ++ (count - (from - 1) + j + 1) ∷ []) ≡ Ok (get_or b.items (first - (from - 1) + j) (fill b.item_type))
    begin_item j h =
        let low = from_low in
        let high = from_high in
        let there = begin_there in
        let k : ℕ = count - (from - 1) + j in
        let below : k < count = omega arith in
        let t = turn k below in
        let pair = beside k below in
        let same = t.around (omega arith) in
        ap (λ i. rotate_item along a b (row ++ i ∷ [])) (sym (omega arith)) ∙ item_at k (first - (from - 1) + j) below (omega arith)

    end_fits : IsArray b → first + (count - (from - 1)) ≤ length b.items
    end_fits sound =
        let low = from_low in
        let high = from_high in
        let last : count - from < count = omega arith in
        let below = places_below b.shape (at_index (0 + (count - from) + 1)) (inside_at (count - from) last) in
        let t = turn (count - from) last in
        let pair = beside (count - from) last in
        let same = t.inside (omega arith) in
        omega (arith, sound.one_item_a_place)

    line : (place begin : ℕ) → place ≡ first → begin ≡ from → IsArray b → TurnedLine along a b row count place begin
    line place begin e f sound =
        rw (e, f) (record { low = from_low; high = from_high; there = begin_there; fits = end_fits sound; end_item = end_item; begin_item = begin_item })

    pub turned_line : (place : ℕ) (at : List ℕ) → place ≡ first → at ≡ at_index 1 → IsArray b → TurnedLine along a b row count place (get_or at (length row) 0)
    turned_line place at e f sound = line place (get_or at (length row) 0) e (ap (λ xs. get_or xs (length row) 0) (f ∙ at_last 1) ∙ get_last row from 0) sound

    -- the line moves by the places that the one amount moves the first one
    pub one_line : (place turn : ℕ) → place ≡ places_before b.shape (row ++ 1 ∷ []) → IsArray a → size a.shape ≡ 1
        → (0 < places_along b.shape axis → suc turn ≡ rotated_place (places_along b.shape axis) (get_or (numbers a) 0 (pos 0)) 1) → IsArray b
        → TurnedLine along a b row count (place + turn) (suc turn)
    one_line place turn begins sound_amounts one turn_is sound =
        let n : places_along b.shape axis ≡ count =
        ap (places_along b.shape) last_axis ∙ get_or_default b.shape (length row) 1 0 (omega (arith, passed_row.row_of.long)) ∙ passed_row.row_of.whole in
        let same : get_or (numbers a) 0 (pos 0) ≡ amount =
        sym (amount_of (length row) a (row ++ 1 ∷ []) sound_amounts one) ∙ ap (λ xs. number_of (extended a xs)) (remove_last row 1) in
        let turned : suc turn ≡ from = turn_is (omega (arith, passed_row.row_of.some)) ∙ ap (λ m. rotated_place m (get_or (numbers a) 0 (pos 0)) 1) n ∙ ap (λ z. rotated_place count z 1) same in
        let pair = places_in_row b.shape row 1 from (passed_row.row_of.places 1 (omega arith) passed_row.row_of.some) from_low in
        let here : first ≡ places_before b.shape (row ++ from ∷ []) = ap (places_before b.shape) (at_last 1) in
        line (place + turn) (suc turn) (omega arith) turned sound
