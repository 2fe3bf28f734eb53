-- The places of the items of an indexed reference.
use Rattle.std.{proofs.Common.{◌≡◌, ℕ, zero, suc, ◌+◌, ◌-◌, ◌*◌, ◌<◌, ◌≤◌, pos, unsigned_abs, Bool, true, false, List, [], ◌∷◌, ◌++◌, map, length, get_or, take, drop, Some, None, Ok, refl, ap, sym, subst, ◌∙◌, arith}, specs.List.{list_all, range_with_len}, specs.Prelude.{not, nat_eq, ◌&&◌}}
use Rattle.std.{proofs.lemmas.Bool.{and_parts, eqb-true, false≢true}, proofs.lemmas.List.{length-map, get_or-map}, proofs.lemmas.List.FromFn.{length-map-range_with_len, get_or-map-range_with_len, length-range_with_len, get_or-range_with_len}}
use Rattle.arrays_core.{specs.declared.item.Item.{Item}, specs.declared.item.ItemType.{ItemType}, specs.Building.{listed}, specs.Items.{fill, and_then}, specs.Arrays.{ArrayValue, IsArray, collect, with_items}, specs.Shapes.{size, is_index_of, places_before, index_after, IsWithinLimits}}
use Rattle.arrays_core.{proofs.Shapes.{head_of, places_below}, proofs.Order.{given_in_order, index_after-within, places_before-index_after}}
use Rattle.index_region.{specs.Arguments.{is_scalar, number_of, numbers}, specs.Checks.{Form, form_of}, proofs.OnAxes.{OnAxis, one_more_inside}, proofs.Passing.{gives, limited_gives}}
use Rattle.selection_fns.{specs.Index.{Position, written_positions, count_written, position_axes, indexed_shape, are_numbers, is_on_axis, is_on, are_on, source_index, index_form, index_item, index_whole}, specs.IndexPlaces.{sums, ArePlacesOf}, proofs.Indexed.{positions_long}, proofs.IndexedRows.{own_index, item_there}}
use Rattle.selection_fns.{proofs.PlaceSums.{length-sums, get_or-sums, sums_below}, proofs.Positions.{split_inside}, proofs.SourcePlaces.{index_on_axis}}

-- ---- shapes joined

size_append : (shape rest : List ℕ) → size (shape ++ rest) ≡ size shape * size rest
size_append [] rest = omega arith
size_append (n ∷ shape) rest = rw (size_append shape rest) (omega arith)

places_append : (shape rest index : List ℕ) → is_index_of (shape ++ rest) index ≡ true
    → places_before (shape ++ rest) index ≡ places_before shape (take (length shape) index) * size rest + places_before rest (drop (length shape) index)
places_append [] rest index h = omega arith
places_append (n ∷ shape) rest [] h = absurd (false≢true h)
places_append (n ∷ shape) rest (i ∷ index) h =
    let whole : (i - 1) * size (shape ++ rest) + places_before (shape ++ rest) index
    ≡ ((i - 1) * size shape + places_before shape (take (length shape) index)) * size rest + places_before rest (drop (length shape) index) =
    rw (size_append shape rest, places_append shape rest index (head_of n i (shape ++ rest) index h).rest) (omega arith) in
    whole

-- ---- the places of a list

-- each place is one of the array's
pub places_inside : (axes : List ℕ) (positions : List Position) (places : List ℕ) → ArePlacesOf axes positions places → (k : ℕ) → k < length places → get_or places k 0 < size axes
places_inside axes positions places found k h =
    let shape = indexed_shape axes positions in
    let below : k < size shape = omega arith in
    let there = index_after-within shape k below in
    let is : get_or places k 0 ≡ places_before axes (source_index positions (index_after shape k)) =
    ap (λ j. get_or places j 0) (sym (places_before-index_after shape k below)) ∙ found.is (index_after shape k) there in
    omega (arith, places_below axes (source_index positions (index_after shape k)) (found.inside (index_after shape k) there))

-- the offsets of the places that a position names, from the place of index 1
pub record AreOffsetsOf (n step : ℕ) (q : Position) (offsets : List ℕ) : Type 0 where
  pub as_many : length offsets ≡ size (position_axes n q)
  pub is : (at : List ℕ) → is_index_of (position_axes n q) at ≡ true → get_or offsets (places_before (position_axes n q) at) 0 ≡ (own_index q at - 1) * step
  pub on : (at : List ℕ) → is_index_of (position_axes n q) at ≡ true → OnAxis n (own_index q at)

pub whole_axis : (n step : ℕ) → AreOffsetsOf n step None (listed n (λ k. k * step))
whole_axis n step = record {
  as_many = let one : n ≡ n * 1 = omega arith in length-map-range_with_len (λ k. k * step) 0 n ∙ one;
  is = λ at h. axis_is at h;
  on = λ at h. axis_on at h;
}
  where
    axis_on : (at : List ℕ) → is_index_of (n ∷ []) at ≡ true → OnAxis n (get_or at 0 0)
    axis_on [] h = absurd (false≢true h)
    axis_on (i ∷ at) h = let head = head_of n i [] at h in record { low = head.low; high = head.high }

    axis_is : (at : List ℕ) → is_index_of (n ∷ []) at ≡ true → get_or (listed n (λ k. k * step)) (places_before (n ∷ []) at) 0 ≡ (get_or at 0 0 - 1) * step
    axis_is [] h = absurd (false≢true h)
    axis_is (i ∷ at) h =
        let head = head_of n i [] at h in
        ap (λ k. get_or (listed n (λ j. j * step)) k 0) (omega arith) ∙ get_or-map-range_with_len (λ k. k * step) 0 n (i - 1) (i - 1) 0 (omega arith) (omega arith)

pub written_indices : (n step : ℕ) (p : ArrayValue) → IsArray p → list_all (is_on_axis n) (numbers p) ≡ true
    → AreOffsetsOf n step (Some p) (map (λ z. (unsigned_abs z - 1) * step) (numbers p))
written_indices n step p sound on = record {
  as_many = length-map (numbers p) (λ z. (unsigned_abs z - 1) * step) ∙ length-map p.items number_of ∙ sound.one_item_a_place;
  is = λ at h.
      let k = places_before p.shape at in
      let below = places_below p.shape at h in
      let numbered = length-map p.items number_of in
      get_or-map (λ z. (unsigned_abs z - 1) * step) (numbers p) k (pos 0) 0 (omega arith)
      ∙ ap (λ z. (unsigned_abs z - 1) * step) (get_or-map number_of p.items k (fill p.item_type) (pos 0) (omega arith));
  on = λ at h. index_on_axis n p at sound h on;
}

-- ---- one axis more

module _ (n : ℕ) (axes : List ℕ) (q : Position) (positions : List Position) (offsets places : List ℕ)
    (own : AreOffsetsOf n (size axes) q offsets) (found : ArePlacesOf axes positions places) where
  abbrev rest : List ℕ
  rest = indexed_shape axes positions

  source_first : (index : List ℕ)
      → source_index (q ∷ positions) index ≡ own_index q (take (length (position_axes n q)) index) ∷ source_index positions (drop (length (position_axes n q)) index)
  source_first index = by_position q index
    where
      by_position : (r : Position) (index : List ℕ)
          → source_index (r ∷ positions) index ≡ own_index r (take (length (position_axes n r)) index) ∷ source_index positions (drop (length (position_axes n r)) index)
      by_position (Some p) index = refl
      by_position None [] = refl
      by_position None (i ∷ index) = refl

  first_inside : (index : List ℕ) → is_index_of (position_axes n q ++ rest) index ≡ true → is_index_of (n ∷ axes) (source_index (q ∷ positions) index) ≡ true
  first_inside index h =
      let parts = split_inside (position_axes n q) rest index h in
      let at = take (length (position_axes n q)) index in
      let others = drop (length (position_axes n q)) index in
      subst (λ s. is_index_of (n ∷ axes) s ≡ true) (sym (source_first index))
      (one_more_inside n (own_index q at) axes (source_index positions others) (own.on at parts.first) (found.inside others parts.others))

  first_is : (index : List ℕ) → is_index_of (position_axes n q ++ rest) index ≡ true
      → get_or (sums offsets places) (places_before (position_axes n q ++ rest) index) 0 ≡ places_before (n ∷ axes) (source_index (q ∷ positions) index)
  first_is index h =
      let parts = split_inside (position_axes n q) rest index h in
      let at = take (length (position_axes n q)) index in
      let others = drop (length (position_axes n q)) index in
      let before = places_append (position_axes n q) rest index h in
      let i = places_before (position_axes n q) at in
      let j = places_before rest others in
      let first = places_below (position_axes n q) at parts.first in
      let second = places_below rest others parts.others in
      let place : places_before (position_axes n q ++ rest) index ≡ i * length places + j = before ∙ ap (λ m. i * m + j) (sym found.as_many) in
      let sum : get_or (sums offsets places) (i * length places + j) 0 ≡ get_or offsets i 0 + get_or places j 0 = get_or-sums offsets places i j (omega arith) (omega arith) in
      let left = own.is at parts.first in
      let right = found.is others parts.others in
      let source : places_before (n ∷ axes) (source_index (q ∷ positions) index) ≡ (own_index q at - 1) * size axes + places_before axes (source_index positions others) =
      ap (places_before (n ∷ axes)) (source_first index) in
      ap (λ k. get_or (sums offsets places) k 0) place ∙ sum ∙ ap (λ x. x + get_or places j 0) left ∙ ap (λ y. (own_index q at - 1) * size axes + y) right ∙ sym source

  pub one_axis_more : ArePlacesOf (n ∷ axes) (q ∷ positions) (sums offsets places)
  one_axis_more = record {
    as_many =
        length-sums offsets places ∙ ap (λ k. k * length places) own.as_many ∙ ap (λ k. size (position_axes n q) * k) found.as_many ∙ sym (size_append (position_axes n q) rest);
    is = first_is;
    inside = first_inside;
  }

pub no_axes : ArePlacesOf [] [] (0 ∷ [])
no_axes = record { as_many = refl; is = λ index h. refl; inside = λ index h. refl }

-- the last axis alone, where it is taken whole
pub last_axis : (n : ℕ) → ArePlacesOf (n ∷ []) (None ∷ []) (range_with_len 0 n)
last_axis n = record { as_many = let one : n ≡ n * 1 = omega arith in length-range_with_len 0 n ∙ one; is = axis_is; inside = axis_inside }
  where
    axis_is : (index : List ℕ) → is_index_of (n ∷ []) index ≡ true
        → get_or (range_with_len 0 n) (places_before (n ∷ []) index) 0 ≡ places_before (n ∷ []) (get_or index 0 0 ∷ [])
    axis_is [] h = absurd (false≢true h)
    axis_is (i ∷ index) h =
        let head = head_of n i [] index h in
        ap (λ k. get_or (range_with_len 0 n) k 0) (omega arith) ∙ get_or-range_with_len 0 n (i - 1) 0 (omega arith) ∙ (omega arith)

    axis_inside : (index : List ℕ) → is_index_of (n ∷ []) index ≡ true → is_index_of (n ∷ []) (get_or index 0 0 ∷ []) ≡ true
    axis_inside [] h = absurd (false≢true h)
    axis_inside (i ∷ []) h = h
    axis_inside (i ∷ j ∷ index) h = absurd (false≢true (head_of n i [] (j ∷ index) h).rest)

-- ---- the positions of a call

-- an axis with an index is not empty, and the others have indices too
pub record IsIndexed (n : ℕ) (axes : List ℕ) (all rest : ℕ) : Type 0 where
  pub axis : 0 < n
  pub within : IsWithinLimits axes
  pub some : 0 < rest
  pub few : rest ≤ all

factors : (m r : ℕ) → 0 < m * r → (0 < m) × (0 < r) × (r ≤ m * r)
factors zero r h = absurd (omega arith)
factors (suc m) zero h = absurd (omega arith)
factors (suc m) (suc r) h = (omega arith, omega arith, omega arith)

rest_within : (n : ℕ) (axes : List ℕ) → 0 < n → IsWithinLimits (n ∷ axes) → IsWithinLimits axes
rest_within zero axes some within = absurd (omega arith)
rest_within (suc n) axes some within =
    record { rank = omega arith; axes = λ k d h. within.axes (suc k) d (omega arith); size_within = omega arith }

pub axes_indexed : (n : ℕ) (axes : List ℕ) (q : Position) (positions : List Position) (offsets : List ℕ) (step : ℕ) → AreOffsetsOf n step q offsets → IsWithinLimits (n ∷ axes)
    → 0 < size (indexed_shape (n ∷ axes) (q ∷ positions))
    → IsIndexed n axes (size (indexed_shape (n ∷ axes) (q ∷ positions))) (size (indexed_shape axes positions))
axes_indexed n axes q positions offsets step own within some =
    let sized = size_append (position_axes n q) (indexed_shape axes positions) in
    let parts = factors (size (position_axes n q)) (size (indexed_shape axes positions)) (omega arith) in
    let first = own.on (index_after (position_axes n q) 0) (index_after-within (position_axes n q) 0 parts.0) in
    let axis : 0 < n = omega arith in
    record { axis = axis; within = rest_within n axes axis within; some = parts.1; few = let less = parts.2 in omega arith }

-- the remaining axes and positions after the first
pub record IsRest (axes : List ℕ) (written : List Bool) (rest : List ArrayValue) (all : ℕ) : Type 0 where
  pub within : IsWithinLimits (drop 1 axes)
  pub one_an_axis : length (drop 1 written) ≡ length (drop 1 axes)
  pub long : length rest ≡ count_written (drop 1 written)
  pub on : are_on (drop 1 axes) (written_positions (drop 1 written) rest) ≡ true
  pub some : 0 < size (indexed_shape (drop 1 axes) (written_positions (drop 1 written) rest))
  pub few : size (indexed_shape (drop 1 axes) (written_positions (drop 1 written) rest)) ≤ all
  pub sized : get_or axes 0 0 * size (drop 1 axes) ≡ size axes

pub empty_rest : (axes : List ℕ) (written : List Bool) (args : List ArrayValue) → IsWithinLimits axes → length written ≡ length axes → length args ≡ count_written written
    → are_on axes (written_positions written args) ≡ true → 0 < size (indexed_shape axes (written_positions written args))
    → 0 < length written → get_or written 0 false ≡ false → IsRest axes written args (size (indexed_shape axes (written_positions written args)))
empty_rest axes [] args within same long on some there h = absurd (omega arith)
empty_rest axes (true ∷ written) args within same long on some there h = let no : ⊥ = cc in absurd no
empty_rest [] (false ∷ written) args within same long on some there h = absurd (omega arith)
empty_rest (n ∷ axes) (false ∷ written) args within same long on some there h =
    let known = axes_indexed n axes None (written_positions written args) (listed n (λ k. k * 1)) 1 (whole_axis n 1) within some in
    record { within = known.within; one_an_axis = omega arith; long = long; on = on; some = known.some; few = known.few; sized = refl }

pub written_rest : (axes : List ℕ) (written : List Bool) (args : List ArrayValue) (p : ArrayValue) → IsWithinLimits axes → length written ≡ length axes → length args ≡ count_written written
    → are_on axes (written_positions written args) ≡ true → 0 < size (indexed_shape axes (written_positions written args))
    → get_or written 0 false ≡ true → p ≡ get_or args 0 p → IsArray p → IsRest axes written (drop 1 args) (size (indexed_shape axes (written_positions written args)))
written_rest axes [] args p within same long on some h is sound = let no : ⊥ = cc in absurd no
written_rest axes (false ∷ written) args p within same long on some h is sound = let no : ⊥ = cc in absurd no
written_rest [] (true ∷ written) args p within same long on some h is sound = absurd (omega arith)
written_rest (n ∷ axes) (true ∷ written) [] p within same long on some h is sound = absurd (omega arith)
written_rest (n ∷ axes) (true ∷ written) (a ∷ args) p within same long on some h is sound =
    let both = and_parts (is_on n (Some a)) _ on in
    let known = axes_indexed n axes (Some a) (written_positions written args) _ 1 (written_indices n 1 a (subst IsArray is sound) both.0) within some in
    record { within = known.within; one_an_axis = omega arith; long = omega arith; on = both.1; some = known.some; few = known.few; sized = refl }

pub empty_more : (axes : List ℕ) (written : List Bool) (args : List ArrayValue) (step : ℕ) (offsets places : List ℕ) → length written ≡ length axes → 0 < length written
    → get_or written 0 false ≡ false → step ≡ size (drop 1 axes) → offsets ≡ listed (get_or axes 0 0) (λ k. k * step)
    → ArePlacesOf (drop 1 axes) (written_positions (drop 1 written) args) places → ArePlacesOf axes (written_positions written args) (sums offsets places)
empty_more axes [] args step offsets places same there h stepped is found = absurd (omega arith)
empty_more axes (true ∷ written) args step offsets places same there h stepped is found = let no : ⊥ = cc in absurd no
empty_more [] (false ∷ written) args step offsets places same there h stepped is found = absurd (omega arith)
empty_more (n ∷ axes) (false ∷ written) args step offsets places same there h stepped is found =
    subst (λ xs. ArePlacesOf (n ∷ axes) (None ∷ written_positions written args) (sums xs places)) (ap (λ s. listed n (λ k. k * s)) (sym stepped) ∙ sym is)
    (one_axis_more n axes None (written_positions written args) (listed n (λ k. k * size axes)) places (whole_axis n (size axes)) found)

pub written_some : (axes : List ℕ) (written : List Bool) (args : List ArrayValue) (p : ArrayValue) → length written ≡ length axes → length args ≡ count_written written
    → 0 < size (indexed_shape axes (written_positions written args)) → get_or written 0 false ≡ true → p ≡ get_or args 0 p → 0 < size p.shape
written_some axes [] args p same long some h is = let no : ⊥ = cc in absurd no
written_some axes (false ∷ written) args p same long some h is = let no : ⊥ = cc in absurd no
written_some [] (true ∷ written) args p same long some h is = absurd (omega arith)
written_some (n ∷ axes) (true ∷ written) [] p same long some h is = absurd (omega arith)
written_some (n ∷ axes) (true ∷ written) (a ∷ args) p same long some h is =
    let sized = size_append a.shape (indexed_shape axes (written_positions written args)) in
    subst (λ q. 0 < size q.shape) (sym is) (factors (size a.shape) (size (indexed_shape axes (written_positions written args))) (omega arith)).0

pub written_more : (axes : List ℕ) (written : List Bool) (args : List ArrayValue) (p : ArrayValue) (step : ℕ) (offsets places : List ℕ) → length written ≡ length axes
    → length args ≡ count_written written → are_on axes (written_positions written args) ≡ true → get_or written 0 false ≡ true → p ≡ get_or args 0 p → IsArray p
    → step ≡ size (drop 1 axes) → offsets ≡ map (λ z. (unsigned_abs z - 1) * step) (numbers p)
    → ArePlacesOf (drop 1 axes) (written_positions (drop 1 written) (drop 1 args)) places → ArePlacesOf axes (written_positions written args) (sums offsets places)
written_more axes [] args p step offsets places same long on h is sound stepped made found = let no : ⊥ = cc in absurd no
written_more axes (false ∷ written) args p step offsets places same long on h is sound stepped made found = let no : ⊥ = cc in absurd no
written_more [] (true ∷ written) args p step offsets places same long on h is sound stepped made found = absurd (omega arith)
written_more (n ∷ axes) (true ∷ written) [] p step offsets places same long on h is sound stepped made found = absurd (omega arith)
written_more (n ∷ axes) (true ∷ written) (a ∷ args) p step offsets places same long on h is sound stepped made found =
    let own = written_indices n (size axes) a (subst IsArray is sound) (and_parts (is_on n (Some a)) _ on).0 in
    subst (λ xs. ArePlacesOf (n ∷ axes) (Some a ∷ written_positions written args) (sums xs places))
    (ap (λ s. map (λ z. (unsigned_abs z - 1) * s) (numbers a)) (sym stepped) ∙ ap (λ q. map (λ z. (unsigned_abs z - 1) * step) (numbers q)) (sym is) ∙ sym made)
    (one_axis_more n axes (Some a) (written_positions written args) (map (λ z. (unsigned_abs z - 1) * size axes) (numbers a)) places own found)

-- the last position alone, which is empty
pub empty_last : (axes : List ℕ) (written : List Bool) (args : List ArrayValue) (places : List ℕ) → length written ≡ length axes → 0 < length written
    → get_or written 0 false ≡ false → length (drop 1 axes) ≡ 0 → places ≡ range_with_len 0 (get_or axes 0 0) → ArePlacesOf axes (written_positions written args) places
empty_last axes [] args places same there h alone is = absurd (omega arith)
empty_last axes (true ∷ written) args places same there h alone is = let no : ⊥ = cc in absurd no
empty_last [] (false ∷ written) args places same there h alone is = absurd (omega arith)
empty_last (n ∷ []) (false ∷ []) args places same there h alone is = subst (ArePlacesOf (n ∷ []) (None ∷ [])) (sym is) (last_axis n)
empty_last (n ∷ []) (false ∷ w ∷ written) args places same there h alone is = absurd (omega arith)
empty_last (n ∷ m ∷ axes) (false ∷ written) args places same there h alone is = absurd (omega arith)

-- the bounds under which offsets and places are added
pub record IsSumWithin (offsets places : List ℕ) (m : ℕ) : Type 0 where
  pub few : length offsets * length places ≤ m
  pub fit : (i j : ℕ) → i < length offsets → j < length places → get_or offsets i 0 + get_or places j 0 < 4294967296

pub sum_within : (axes : List ℕ) (positions : List Position) (offsets places : List ℕ) → ArePlacesOf axes positions (sums offsets places) → IsWithinLimits axes
    → size (indexed_shape axes positions) ≤ 1048576 → IsSumWithin offsets places 1048576
sum_within axes positions offsets places found within few =
    let counted = length-sums offsets places in
    record {
      few = omega arith;
      fit = λ i j h g.
          let below = sums_below offsets places (size axes) (places_inside axes positions (sums offsets places) found) i j h g in
          omega arith;
    }

-- ---- the whole result

pub picked_places : (a : ArrayValue) (positions : List Position) (shape places : List ℕ) (item_type : ItemType)
    → index_form a positions ≡ Ok (form_of shape item_type) → shape ≡ indexed_shape a.shape positions → item_type ≡ a.item_type → ArePlacesOf a.shape positions places
    → index_whole a positions ≡ Ok (record { item_type = item_type; shape = shape; items = map (λ k. get_or a.items k (fill a.item_type)) places })
picked_places a positions shape places item_type form shaped typed found =
    let picked : List Item = map (λ k. get_or a.items k (fill a.item_type)) places in
    let long : length picked ≡ size shape = length-map places (λ k. get_or a.items k (fill a.item_type)) ∙ found.as_many ∙ ap size (sym shaped) in
    ap (λ r. and_then r (λ f. collect f.item_type f.shape (index_item a positions))) form
    ∙ ap (with_items item_type shape) (given_in_order shape (index_item a positions) picked (fill a.item_type) long each)
  where
    each : (k : ℕ) → k < size shape → index_item a positions (index_after shape k) ≡ Ok (get_or (map (λ j. get_or a.items j (fill a.item_type)) places) k (fill a.item_type))
    each k h =
        let index = index_after shape k in
        let within : is_index_of (indexed_shape a.shape positions) index ≡ true = subst (λ s. is_index_of s index ≡ true) shaped (index_after-within shape k h) in
        let place : places_before (indexed_shape a.shape positions) index ≡ k = ap (λ s. places_before s index) (sym shaped) ∙ places_before-index_after shape k h in
        let sized : length places ≡ size shape = found.as_many ∙ ap size (sym shaped) in
        item_there a (source_index positions index) (found.inside index within)
        ∙ ap (λ j. Ok (get_or a.items j (fill a.item_type))) (sym (found.is index within) ∙ ap (λ j. get_or places j 0) place)
        ∙ ap (λ (x : Item). Ok x) (sym (get_or-map (λ j. get_or a.items j (fill a.item_type)) places k 0 (fill a.item_type) (omega arith)))

-- where an indexed reference gives a form, its positions are on the axes, and the form is their shape
pub record IndexGives (a : ArrayValue) (written : List Bool) (positions : List Position) (shape : List ℕ) (item_type : ItemType) : Type 0 where
  pub one_an_axis : length written ≡ length a.shape
  pub on : are_on a.shape positions ≡ true
  pub shaped : shape ≡ indexed_shape a.shape positions
  pub typed : item_type ≡ a.item_type

pub index_gives : (a : ArrayValue) (written : List Bool) (args : List ArrayValue) (shape : List ℕ) (item_type : ItemType) → length args ≡ count_written written
    → index_form a (written_positions written args) ≡ Ok (form_of shape item_type) → IndexGives a written (written_positions written args) shape item_type
index_gives a written args shape item_type long form =
    let positions = written_positions written args in
    let ranks = gives (not (is_scalar a) && nat_eq (length positions) (length a.shape)) _ _ (form_of shape item_type) form in
    let on = gives (are_on a.shape positions) _ _ (form_of shape item_type) (gives (list_all are_numbers positions) _ _ (form_of shape item_type) ranks.is).is in
    let asked = limited_gives (indexed_shape a.shape positions) a.item_type (form_of shape item_type) on.is in
    let as_many = positions_long written args long in
    let same = eqb-true (length positions) (length a.shape) (and_parts (not (is_scalar a)) _ ranks.test).1 in
    record { one_an_axis = omega arith; on = on.test; shaped = ap (λ (f : Form). f.shape) asked; typed = ap (λ (f : Form). f.item_type) asked }

pub no_places : (a : ArrayValue) (positions : List Position) (shape : List ℕ) (item_type : ItemType) → index_form a positions ≡ Ok (form_of shape item_type) → size shape ≡ 0
    → index_whole a positions ≡ Ok (record { item_type = item_type; shape = shape; items = [] })
no_places a positions shape item_type form none =
    ap (λ r. and_then r (λ f. collect f.item_type f.shape (index_item a positions))) form
    ∙ ap (with_items item_type shape) (given_in_order shape (index_item a positions) [] (fill a.item_type) (sym none) (λ k h. absurd (omega arith)))
