-- The rows of a result of take.
use Rattle.std.{proofs.Common.{◌≡◌, ℕ, zero, suc, ◌+◌, ◌-◌, ◌<◌, ◌≤◌, min, ℤ, pos, negsuc, unsigned_abs, nat_eq, Bool, true, false, cond, if◌then◌else◌, List, [], ◌∷◌, ◌++◌, length, get_or, replicate, Some, None, Result, Ok, refl, ap, sym, subst, ◌∙◌, arith}, specs.Prelude.{unwrap_or, int_le}}
use Rattle.std.proofs.lemmas.Bool.{eqb-true, false≢true, false_from_ne_true, le-leb}
use Rattle.arrays_core.{specs.declared.item.Item.{Item}, specs.declared.item.ItemType.{ItemType}, specs.declared.item.Kind.{Kind}, specs.Items.{fill}, specs.Arrays.{ArrayValue, IsArray}, specs.Building.{listed, with_row}, specs.Shapes.{size, IsWithinLimits, is_index_of, places_before}, proofs.Shapes.{places_below}}
use Rattle.arrays_core.proofs.Rows.{row_end, same_row, places_in_row, with_row_none, with_row_more, with_row_then}
use Rattle.index_region.{specs.Answers.{IsRowIn, IsPlaceOf}, specs.Arguments.{numbers, is_scalar, is_list, counts_as_numbers}, specs.Sources.{Place, Fill, item_from}, proofs.Passing.{passed, place_inside, row_passed, row_inside}}
use Rattle.structural_fns.{specs.AxisCounts.{counted_shape, uncounted}, specs.Reshape.{magnitudes}, specs.Take.{take_form, take_item, taken_place, taken_places, AreOnLastAxis}, proofs.Counting.{by_rank, numbers_long, magnitudes_long, magnitude_at}, proofs.Offsets.{offset_of}, proofs.SourcePlaces.{uncounted_inside}}

-- the facts about such a row
pub record TakenRow (a b : ArrayValue) (row : List ℕ) (count : ℕ) (item_type : ItemType) : Type 0 where
  pub rank : length row < 4
  pub axes : length (counted_shape a b) ≡ length row + 1
  pub counts : length a.items ≡ length row + 1
  pub taken : unsigned_abs (get_or (numbers a) (length row) (pos 0)) ≡ count
  pub typed : b.item_type ≡ item_type

pub taken_row : (a b : ArrayValue) (row : List ℕ) (count : ℕ) (item_type : ItemType) → IsRowIn (take_form a b) row count item_type → TakenRow a b row count item_type
taken_row a b row count item_type h =
    let listed = row_passed (is_list a) _ _ row count item_type h in
    let as_many = row_passed (nat_eq (length a.items) (length (counted_shape a b))) _ _ row count item_type listed.row_in in
    let inside = row_inside (magnitudes a) b.item_type row count item_type (row_passed (counts_as_numbers a) _ _ row count item_type as_many.row_in).row_in in
    let same = eqb-true (length a.items) (length (counted_shape a b)) as_many.test in
    let long = magnitudes_long a in
    record {
      rank = inside.row_of.rank;
      axes = omega (arith, inside.row_of.long);
      counts = omega (arith, inside.row_of.long);
      taken = sym (magnitude_at a (length row) (omega (arith, inside.row_of.long))) ∙ inside.row_of.whole;
      typed = inside.typed;
    }

-- the facts about the axes and the counts, from one place of a row
pub record TakenLong (a b : ArrayValue) (row : List ℕ) : Type 0 where
  pub axes : length (counted_shape a b) ≡ length row + 1
  pub counts : length a.items ≡ length row + 1

pub taken_long : (a b : ArrayValue) (row : List ℕ) (i : ℕ) → IsPlaceOf (take_form a b) (row ++ i ∷ []) → TakenLong a b row
taken_long a b row i h =
    let as_many = passed (nat_eq (length a.items) (length (counted_shape a b))) _ _ (row ++ i ∷ []) (passed (is_list a) _ _ (row ++ i ∷ []) h).place in
    let numbered = passed (counts_as_numbers a) _ _ (row ++ i ∷ []) as_many.place in
    let end = row_end (magnitudes a) row i (place_inside (magnitudes a) b.item_type (row ++ i ∷ []) numbered.place) in
    let same = eqb-true (length a.items) (length (counted_shape a b)) as_many.test in
    let long = magnitudes_long a in
    record { axes = omega (arith, end.long); counts = omega (arith, end.long) }

-- the places of a row: on the other axes, followed by the last axis
pub record PlacesOfRow (shape : List ℕ) (counts : List ℤ) (row : List ℕ) : Type 0 where
  pub long : length (taken_places shape counts row) ≡ length row
  pub is : (i : ℕ) → taken_places shape counts (row ++ i ∷ []) ≡ taken_places shape counts row ++ taken_place (get_or shape (length row) 0) (get_or counts (length row) (pos 0)) i ∷ []

pub places_of_row : (shape : List ℕ) (counts : List ℤ) (row : List ℕ) → length shape ≡ length row + 1 → length counts ≡ length row + 1 → PlacesOfRow shape counts row
places_of_row [] counts row s c = absurd (omega arith)
places_of_row (n ∷ shape) [] row s c = absurd (omega arith)
places_of_row (n ∷ []) (count ∷ counts) [] s c = record { long = refl; is = λ i. refl }
places_of_row (n ∷ m ∷ shape) (count ∷ counts) [] s c = absurd (omega arith)
places_of_row (n ∷ shape) (count ∷ counts) (j ∷ row) s c =
    let rest = places_of_row shape counts row (omega arith) (omega arith) in
    record { long = ap suc rest.long; is = λ i. ap (λ xs. taken_place n count j ∷ xs) (rest.is i) }

-- the places of an index list, axis by axis
pub places_long : (shape : List ℕ) (counts : List ℤ) (index : List ℕ) → length counts ≡ length shape → length index ≡ length shape
    → length (taken_places shape counts index) ≡ length shape
places_long [] counts index c i = refl
places_long (n ∷ shape) [] index c i = absurd (omega arith)
places_long (n ∷ shape) (count ∷ counts) [] c i = absurd (omega arith)
places_long (n ∷ shape) (count ∷ counts) (j ∷ index) c i = ap suc (places_long shape counts index (omega arith) (omega arith))

pub places_at : (shape : List ℕ) (counts : List ℤ) (index : List ℕ) (k : ℕ) → k < length shape → length counts ≡ length shape → length index ≡ length shape
    → get_or (taken_places shape counts index) k 0 ≡ taken_place (get_or shape k 0) (get_or counts k (pos 0)) (get_or index k 0)
places_at [] counts index k h c i = absurd (omega arith)
places_at (n ∷ shape) [] index k h c i = absurd (omega arith)
places_at (n ∷ shape) (count ∷ counts) [] k h c i = absurd (omega arith)
places_at (n ∷ shape) (count ∷ counts) (j ∷ index) zero h c i = refl
places_at (n ∷ shape) (count ∷ counts) (j ∷ index) (suc k) h c i = places_at shape counts index k (omega arith) (omega arith) (omega arith)

size_of_ones : (n : ℕ) → size (replicate n 1) ≡ 1
size_of_ones zero = refl
size_of_ones (suc n) = let rest = size_of_ones n in rw rest refl

-- the shape that the counts apply to is within the limits
pub counted_limits : (a b : ArrayValue) → IsArray b → length (counted_shape a b) ≤ 4 → IsWithinLimits (counted_shape a b)
counted_limits a b sound few = by_test (is_scalar b) few
  where
    by_test : (scalar : Bool) → length (if scalar then replicate (length a.items) 1 else b.shape) ≤ 4 → IsWithinLimits (if scalar then replicate (length a.items) 1 else b.shape)
    by_test true h =
        let one = size_of_ones (length a.items) in
        record { rank = h; axes = by_rank true (length a.items) b.shape sound.within.axes; size_within = omega arith }
    by_test false h = sound.within

-- ---- the item at a place, or fill if there is none

pub uncounted_place : (a b : ArrayValue) (at : List ℕ) → is_index_of (counted_shape a b) at ≡ true → places_before b.shape (uncounted b at) ≡ places_before (counted_shape a b) at
uncounted_place a b at inside = by_test (is_scalar b) inside
  where
    none_before : (shape : List ℕ) → places_before shape [] ≡ 0
    none_before [] = refl
    none_before (n ∷ shape) = refl

    by_test : (scalar : Bool) → is_index_of (if scalar then replicate (length a.items) 1 else b.shape) at ≡ true
        → places_before b.shape (if scalar then [] else at) ≡ places_before (if scalar then replicate (length a.items) 1 else b.shape) at
    by_test true h =
        let below = places_below (replicate (length a.items) 1) at h in
        let one = size_of_ones (length a.items) in
        none_before b.shape ∙ omega arith
    by_test false h = refl

item_taken : (a b : ArrayValue) (index : List ℕ) → is_index_of (counted_shape a b) (taken_places (counted_shape a b) (numbers a) index) ≡ true
    → take_item a b index ≡ Ok (get_or b.items (places_before (counted_shape a b) (taken_places (counted_shape a b) (numbers a) index)) (fill b.item_type))
item_taken a b index h =
    let at = taken_places (counted_shape a b) (numbers a) index in
    ap (λ w. item_from a b b.item_type (cond w (Place 1 (uncounted b at)) Fill)) h
    ∙ ap (λ w. Ok (unwrap_or (cond w (Some (get_or b.items (places_before b.shape (uncounted b at)) (fill b.item_type))) None) (fill b.item_type))) (uncounted_inside a b at h)
    ∙ ap (λ k. Ok (get_or b.items k (fill b.item_type))) (uncounted_place a b at h)

pub fill_taken : (a b : ArrayValue) (index : List ℕ) → is_index_of (counted_shape a b) (taken_places (counted_shape a b) (numbers a) index) ≡ false
    → take_item a b index ≡ Ok (fill b.item_type)
fill_taken a b index h = ap (λ w. item_from a b b.item_type (cond w (Place 1 (uncounted b (taken_places (counted_shape a b) (numbers a) index))) Fill)) h

-- an offset is that of an index list of the shape
record OffsetThere (inside : Bool) (place wanted : ℕ) : Type 0 where
  there : inside ≡ true
  is : place ≡ wanted

offset_there : (inside : Bool) (place wanted : ℕ) → Some place ≡ (if inside then Some wanted else None) → OffsetThere inside place wanted
offset_there true place wanted e = record { there = refl; is = cc }
offset_there false place wanted e = let no : ⊥ = cc in absurd no

no_offset_there : (inside : Bool) (wanted : ℕ) → None ≡ (if inside then Some wanted else None) → inside ≡ false
no_offset_there true wanted e = let no : ⊥ = cc in absurd no
no_offset_there false wanted e = refl

-- ---- the parts of a row

record NextOnAxis (n p q j : ℕ) : Type 0 where
  is : q ≡ p + j
  low : 1 ≤ q
  high : q ≤ n

next_on_axis : (n : ℕ) (z : ℤ) (before kept j : ℕ) → j < kept → 1 ≤ taken_place n z (before + 1) → taken_place n z (before + kept) ≤ n
    → NextOnAxis n (taken_place n z (before + 1)) (taken_place n z (before + (0 + j + 1))) j
next_on_axis n (pos c) before kept j h low high = record { is = omega arith; low = omega arith; high = omega arith }
next_on_axis n (negsuc c) before kept j h low high = record { is = omega arith; low = omega arith; high = omega arith }

-- a part of a row with consecutive items of the array
pub record KeptRow (a b : ArrayValue) (row : List ℕ) (before kept place : ℕ) : Type 0 where
  pub inside : 0 < kept → IsArray b → place + kept ≤ length b.items
  pub item : (j : ℕ) → j < kept → take_item a b (row ++ (before + (0 + j + 1)) ∷ []) ≡ Ok (get_or b.items (place + j) (fill b.item_type))

-- the places of a row of the result
module _ (a b : ArrayValue) (row : List ℕ) (axes : length (counted_shape a b) ≡ length row + 1) (counts : length a.items ≡ length row + 1) where
  on_axes : PlacesOfRow (counted_shape a b) (numbers a) row
  on_axes = let long = numbers_long a in places_of_row (counted_shape a b) (numbers a) row axes (omega arith)

  abbrev pub at_index : ℕ → List ℕ
  at_index i = taken_places (counted_shape a b) (numbers a) (row ++ i ∷ [])

  abbrev pub on_last : ℕ → ℕ
  on_last i = taken_place (get_or (counted_shape a b) (length row) 0) (get_or (numbers a) (length row) (pos 0)) i

  abbrev others : List ℕ
  others = taken_places (counted_shape a b) (numbers a) row

  length_axis : get_or (counted_shape a b) (length others) 0 ≡ get_or (counted_shape a b) (length row) 0
  length_axis = ap (λ k. get_or (counted_shape a b) k 0) on_axes.long

  inside_at : (i : ℕ) → is_index_of (counted_shape a b) (at_index i) ≡ true → is_index_of (counted_shape a b) (others ++ on_last i ∷ []) ≡ true
  inside_at i h = ap (λ xs. is_index_of (counted_shape a b) xs) (sym (on_axes.is i)) ∙ h

  -- no place of the last axis
  pub outside : (i : ℕ) → (1 ≤ on_last i → on_last i ≤ get_or (counted_shape a b) (length row) 0 → ⊥) → is_index_of (counted_shape a b) (at_index i) ≡ false
  outside i not_on = false_from_ne_true _ (λ e.
      let end = row_end (counted_shape a b) others (on_last i) (inside_at i e) in not_on end.low (subst (λ n. on_last i ≤ n) length_axis end.high))

  -- two places of the last axis
  pub both_inside : (i j : ℕ) → is_index_of (counted_shape a b) (at_index i) ≡ true → 1 ≤ on_last j → on_last j ≤ get_or (counted_shape a b) (length row) 0
      → is_index_of (counted_shape a b) (at_index j) ≡ true
  both_inside i j h low high =
      ap (λ xs. is_index_of (counted_shape a b) xs) (on_axes.is j)
      ∙ same_row (counted_shape a b) others (on_last i) (on_last j) (inside_at i h) low (subst (λ n. on_last j ≤ n) (sym length_axis) high)

  pub side_by_side : (i j : ℕ) → is_index_of (counted_shape a b) (at_index i) ≡ true → 1 ≤ on_last j
      → places_before (counted_shape a b) (at_index j) + on_last i ≡ places_before (counted_shape a b) (at_index i) + on_last j
  side_by_side i j h low =
      ap (λ xs. places_before (counted_shape a b) xs + on_last i) (on_axes.is j)
      ∙ places_in_row (counted_shape a b) others (on_last i) (on_last j) (inside_at i h) low
      ∙ ap (λ xs. places_before (counted_shape a b) xs + on_last j) (sym (on_axes.is i))

  -- a part of a row whose places are on the last axis
  module _ (before kept : ℕ) (on : AreOnLastAxis a b row before kept) where
    next : (j : ℕ) → j < kept → NextOnAxis (get_or (counted_shape a b) (length row) 0) (on_last (before + 1)) (on_last (before + (0 + j + 1))) j
    next j h = next_on_axis _ (get_or (numbers a) (length row) (pos 0)) before kept j h on.0 on.1

    kept_item : (j : ℕ) → j < kept → is_index_of (counted_shape a b) (at_index (before + 1)) ≡ true
        → take_item a b (row ++ (before + (0 + j + 1)) ∷ []) ≡ Ok (get_or b.items (places_before (counted_shape a b) (at_index (before + 1)) + j) (fill b.item_type))
    kept_item j h there =
        let on_axis = next j h in
        let inside = both_inside (before + 1) (before + (0 + j + 1)) there on_axis.low on_axis.high in
        let beside = side_by_side (before + 1) (before + (0 + j + 1)) there on_axis.low in
        item_taken a b (row ++ (before + (0 + j + 1)) ∷ []) inside ∙ ap (λ k. Ok (get_or b.items k (fill b.item_type))) (omega (arith, on_axis.is))

    pub kept_fill : None ≡ offset_of (counted_shape a b) (at_index (before + 1)) → (j : ℕ) → j < kept → take_item a b (row ++ (before + (0 + j + 1)) ∷ []) ≡ Ok (fill b.item_type)
    kept_fill from j h = fill_taken a b (row ++ (before + (0 + j + 1)) ∷ []) (false_from_ne_true _ (λ e.
        let there = both_inside (before + (0 + j + 1)) (before + 1) e on.0 (let n = next j h in omega (arith, n.is, n.high)) in
        false≢true (sym (no_offset_there _ _ from) ∙ there)))

    kept_inside : 0 < kept → IsArray b → is_index_of (counted_shape a b) (at_index (before + 1)) ≡ true
        → places_before (counted_shape a b) (at_index (before + 1)) + kept ≤ length b.items
    kept_inside some sound there =
        let on_axis = next (kept - 1) (omega arith) in
        let inside = both_inside (before + 1) (before + (0 + (kept - 1) + 1)) there on_axis.low on_axis.high in
        let beside = side_by_side (before + 1) (before + (0 + (kept - 1) + 1)) there on_axis.low in
        let at = at_index (before + (0 + (kept - 1) + 1)) in
        let below = places_below b.shape (uncounted b at) (uncounted_inside a b at inside) in
        let same = uncounted_place a b at inside in
        omega (arith, on_axis.is, sound.one_item_a_place)

    pub kept_row : (place : ℕ) → Some place ≡ offset_of (counted_shape a b) (at_index (before + 1)) → KeptRow a b row before kept place
    kept_row place from =
        let offset = offset_there _ place _ from in
        rw offset.is (record { inside = λ some sound. kept_inside some sound offset.there; item = λ j h. kept_item j h offset.there })

-- ---- a whole row

module _ (a b : ArrayValue) (row : List ℕ) (count : ℕ) (item_type : ItemType) (is : TakenRow a b row count item_type) where
  abbrev taken_at : ℕ → Result Item Kind
  taken_at i = take_item a b (row ++ i ∷ [])

  fill_at : (i : ℕ) → (1 ≤ on_last a b row is.axes is.counts i → on_last a b row is.axes is.counts i ≤ get_or (counted_shape a b) (length row) 0 → ⊥)
      → taken_at i ≡ Ok (fill b.item_type)
  fill_at i not_on = fill_taken a b (row ++ i ∷ []) (outside a b row is.axes is.counts i not_on)

  -- no place of the row is on the last axis
  pub fill_row : (kept : ℕ) (items : List Item) (x : Item) → kept ≡ min (get_or (counted_shape a b) (length row) 0) count → kept ≡ 0 → x ≡ fill b.item_type
      → with_row items taken_at count ≡ Ok (items ++ listed count (λ k. x))
  fill_row kept items x least none put =
      with_row_more items items taken_at (λ k. x) 0 count count (omega arith) (λ j h. fill_at (0 + j + 1) (λ low high. omega arith) ∙ ap (λ y. Ok y) (sym put)) (with_row_none items taken_at)

  -- the first places are on the last axis, and the others beyond it
  pub row_of_first : (items mid : List Item) (z : ℤ) (kept : ℕ) → get_or (numbers a) (length row) (pos 0) ≡ z → int_le (pos 0) z ≡ true
      → kept ≡ min (get_or (counted_shape a b) (length row) 0) count → with_row items (λ i. taken_at (0 + i)) kept ≡ Ok mid
      → with_row items taken_at count ≡ Ok (mid ++ listed (count - kept) (λ k. fill b.item_type))
  row_of_first items mid z kept e sign least made =
      with_row_more items mid taken_at (λ k. fill b.item_type) kept (count - kept) count (omega arith)
      (λ j h. fill_at (kept + j + 1) (λ low high. beyond z j (omega arith) sign (subst (λ w. taken_place (get_or (counted_shape a b) (length row) 0) w (kept + j + 1) ≤ get_or (counted_shape a b) (length row) 0) e high)))
      (with_row_then items items mid taken_at 0 kept kept (omega arith) (with_row_none items taken_at) made)
    where
      beyond : (w : ℤ) (j : ℕ) → j < count - kept → int_le (pos 0) w ≡ true → taken_place (get_or (counted_shape a b) (length row) 0) w (kept + j + 1) ≤ get_or (counted_shape a b) (length row) 0 → ⊥
      beyond (pos m) j h s high = omega arith
      beyond (negsuc m) j h s high = absurd (false≢true s)

  -- the last places are on the last axis, and the others before it
  pub row_of_last : (items new : List Item) (z : ℤ) (kept : ℕ) → get_or (numbers a) (length row) (pos 0) ≡ z → int_le (pos 0) z ≡ false
      → kept ≡ min (get_or (counted_shape a b) (length row) 0) count
      → with_row (items ++ listed (count - kept) (λ k. fill b.item_type)) (λ i. taken_at (count - kept + i)) kept ≡ Ok new
      → with_row items taken_at count ≡ Ok new
  row_of_last items new z kept e sign least made =
      with_row_then items (items ++ listed (count - kept) (λ k. fill b.item_type)) new taken_at (count - kept) kept count (omega arith)
      (with_row_more items items taken_at (λ k. fill b.item_type) 0 (count - kept) (count - kept) (omega arith)
      (λ j h. fill_at (0 + j + 1) (λ low high. beyond z j h sign (ap unsigned_abs (sym e) ∙ is.taken) (subst (λ w. 1 ≤ taken_place (get_or (counted_shape a b) (length row) 0) w (0 + j + 1)) e low)))
      (with_row_none items taken_at)) made
    where
      beyond : (w : ℤ) (j : ℕ) → j < count - kept → int_le (pos 0) w ≡ false → unsigned_abs w ≡ count → 1 ≤ taken_place (get_or (counted_shape a b) (length row) 0) w (0 + j + 1) → ⊥
      beyond (pos m) j h s abs low = absurd (false≢true (sym s ∙ le-leb 0 m (omega arith)))
      beyond (negsuc m) j h s abs low = omega arith

  pub last_on_axis : (z : ℤ) (kept : ℕ) → get_or (numbers a) (length row) (pos 0) ≡ z → int_le (pos 0) z ≡ false → 0 < kept
      → kept ≡ min (get_or (counted_shape a b) (length row) 0) count → AreOnLastAxis a b row (count - kept) kept
  last_on_axis z kept e sign some least = subst (λ w. (1 ≤ taken_place (get_or (counted_shape a b) (length row) 0) w (count - kept + 1)) × (taken_place (get_or (counted_shape a b) (length row) 0) w (count - kept + kept) ≤ get_or (counted_shape a b) (length row) 0)) (sym e) (on z sign (ap unsigned_abs (sym e) ∙ is.taken))
    where
      on : (w : ℤ) → int_le (pos 0) w ≡ false → unsigned_abs w ≡ count
          → (1 ≤ taken_place (get_or (counted_shape a b) (length row) 0) w (count - kept + 1)) × (taken_place (get_or (counted_shape a b) (length row) 0) w (count - kept + kept) ≤ get_or (counted_shape a b) (length row) 0)
      on (pos m) s abs = absurd (false≢true (sym s ∙ le-leb 0 m (omega arith)))
      on (negsuc m) s abs = (omega arith, omega arith)
