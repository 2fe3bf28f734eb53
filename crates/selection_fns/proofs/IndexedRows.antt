-- Rows of an index whose last position has an axis: the items of a row come from one row of the array.
use Rattle.std.{proofs.Common.{◌≡◌, ℕ, suc, ◌+◌, ◌-◌, ◌*◌, ◌<◌, ◌≤◌, ℤ, pos, unsigned_abs, Bool, true, false, cond, List, [], ◌∷◌, ◌++◌, length, take, drop, get_or, Some, None, Result, Ok, Err, refl, ap, sym, subst, ◌∙◌, append-nil, arith}, specs.Prelude.{unwrap_or, not, nat_eq, map, ◌&&◌}, specs.List.{list_all}}
use Rattle.std.{proofs.lemmas.Bool.{and_parts, false≢true}, proofs.lemmas.List.{length-append, length-drop, length_push, take_all, take-append-le, drop-append-le, drop-drop, length-map, get_or-map}, proofs.Math.Seq.{get_or-append_seam}}
use Rattle.arrays_core.{specs.declared.item.Item.TheVariants.{Num}, specs.declared.item.ItemType.{ItemType}, specs.declared.item.Kind.{Kind}, specs.Items.{fill}, specs.Arrays.{ArrayValue, IsArray, item_of}, specs.Shapes.{size, is_index_of, places_before}, proofs.Shapes.{as_long, head_of, places_below}}
use Rattle.arrays_core.proofs.Rows.{same_row, places_in_row, row_end}
use Rattle.index_region.{specs.Checks.{Form}, specs.Arguments.{is_scalar, number_of}, specs.Sources.{Place, item_from}, specs.Answers.{IsRowIn}, proofs.OnAxes.{OnAxis}, proofs.Passing.{row_passed, row_inside, place_of_row}}
use Rattle.selection_fns.{specs.Index.{Position, written_positions, count_written, of_array_and_positions, position_axes, indexed_shape, is_on, are_on, are_numbers, source_index, index_form, index_item}, proofs.Indexed.{has_passed, positions_long}, proofs.Positions.{split_inside}, proofs.SourcePlaces.{index_on_axis}}

-- ---- the last position

abbrev pub last_position : List Position → Position
last_position [] = None
last_position (q ∷ []) = q
last_position (q ∷ r ∷ rest) = last_position (r ∷ rest)

-- the number of its axes
abbrev pub own_rank : Position → ℕ
own_rank (Some p) = length p.shape
own_rank None = 1

-- the index that it holds at an index list of its own
abbrev pub own_index : Position → List ℕ → ℕ
own_index (Some p) index = unsigned_abs (number_of (item_of p index))
own_index None index = get_or index 0 0

-- the end of a row: an index list of all its axes but the last
abbrev pub own_part : Position → List ℕ → List ℕ
own_part q row = drop (length row + 1 - own_rank q) row

-- the indices that the earlier positions give
abbrev pub others_index : List Position → List ℕ → List ℕ
others_index [] row = []
others_index (q ∷ []) row = []
others_index (None ∷ r ∷ rest) row = get_or row 0 0 ∷ others_index (r ∷ rest) (drop 1 row)
others_index (Some p ∷ r ∷ rest) row = unsigned_abs (number_of (item_of p (take (length p.shape) row))) ∷ others_index (r ∷ rest) (drop (length p.shape) row)

axes_long : (n : ℕ) (q : Position) → length (position_axes n q) ≡ own_rank q
axes_long n (Some p) = refl
axes_long n None = refl

pub own_axes : (axes : List ℕ) (positions : List Position) → length positions ≡ length axes → 0 < length positions
    → own_rank (last_position positions) ≤ length (indexed_shape axes positions)
own_axes axes [] same some = absurd (omega arith)
own_axes [] (q ∷ rest) same some = absurd (omega arith)
own_axes (n ∷ axes) (q ∷ []) same some = omega (arith, length-append (position_axes n q) (indexed_shape axes []), axes_long n q)
own_axes (n ∷ axes) (q ∷ r ∷ rest) same some =
    omega (arith, length-append (position_axes n q) (indexed_shape axes (r ∷ rest)), own_axes axes (r ∷ rest) (omega arith) (omega arith))

-- a row without its first indices has the same end
own_part_later : (q : Position) (row : List ℕ) (n : ℕ) → n ≤ length row → own_rank q ≤ length row - n + 1 → own_part q (drop n row) ≡ own_part q row
own_part_later q row n low high =
    let long = length-drop n row in
    drop-drop (length (drop n row) + 1 - own_rank q) n row ∙ ap (λ k. drop k row) (omega arith)

-- the sources of the items of a row: index lists that differ in the last index alone
pub source_ends : (axes : List ℕ) (positions : List Position) (row : List ℕ) (i : ℕ) → length positions ≡ length axes → 0 < length positions
    → length row + 1 ≡ length (indexed_shape axes positions) → 0 < own_rank (last_position positions)
    → source_index positions (row ++ i ∷ []) ≡ others_index positions row ++ own_index (last_position positions) (own_part (last_position positions) row ++ i ∷ []) ∷ []
source_ends axes [] row i same some long own = absurd (omega arith)
source_ends [] (q ∷ rest) row i same some long own = absurd (omega arith)
source_ends (n ∷ m ∷ axes) (q ∷ []) row i same some long own = absurd (omega arith)
source_ends (n ∷ []) (None ∷ []) [] i same some long own = refl
source_ends (n ∷ []) (None ∷ []) (j ∷ row) i same some long own = absurd (omega arith)
source_ends (n ∷ []) (Some p ∷ []) row i same some long own =
    let joined = length-append p.shape (indexed_shape [] []) in
    let pushed = length_push row i in
    let all : take (length p.shape) (row ++ i ∷ []) ≡ row ++ i ∷ [] = take_all (length p.shape) (row ++ i ∷ []) (omega arith) in
    let none : length row + 1 - length p.shape ≡ 0 = omega arith in
    ap (λ at. unsigned_abs (number_of (item_of p at)) ∷ []) all ∙ ap (λ k. unsigned_abs (number_of (item_of p (drop k row ++ i ∷ []))) ∷ []) (sym none)
source_ends (n ∷ axes) (None ∷ r ∷ rest) [] i same some long own =
    let few = own_axes axes (r ∷ rest) (omega arith) (omega arith) in
    absurd (omega arith)
source_ends (n ∷ axes) (None ∷ r ∷ rest) (j ∷ row) i same some long own =
    let few = own_axes axes (r ∷ rest) (omega arith) (omega arith) in
    let more = source_ends axes (r ∷ rest) row i (omega arith) (omega arith) (omega arith) own in
    let end = own_part_later (last_position (r ∷ rest)) (j ∷ row) 1 (omega arith) (omega arith) in
    ap (λ at. j ∷ at) more ∙ ap (λ part. j ∷ others_index (r ∷ rest) row ++ own_index (last_position (r ∷ rest)) (part ++ i ∷ []) ∷ []) end
source_ends (n ∷ axes) (Some p ∷ r ∷ rest) row i same some long own =
    let joined = length-append p.shape (indexed_shape axes (r ∷ rest)) in
    let few = own_axes axes (r ∷ rest) (omega arith) (omega arith) in
    let left = length-drop (length p.shape) row in
    let first : take (length p.shape) (row ++ i ∷ []) ≡ take (length p.shape) row = take-append-le (length p.shape) row (i ∷ []) (omega arith) in
    let after : drop (length p.shape) (row ++ i ∷ []) ≡ drop (length p.shape) row ++ i ∷ [] = drop-append-le (length p.shape) row (i ∷ []) (omega arith) in
    let more = source_ends axes (r ∷ rest) (drop (length p.shape) row) i (omega arith) (omega arith) (omega arith) own in
    let end = own_part_later (last_position (r ∷ rest)) row (length p.shape) (omega arith) (omega arith) in
    ap (λ at. unsigned_abs (number_of (item_of p at)) ∷ source_index (r ∷ rest) (drop (length p.shape) (row ++ i ∷ []))) first
    ∙ ap (λ at. unsigned_abs (number_of (item_of p (take (length p.shape) row))) ∷ source_index (r ∷ rest) at) after
    ∙ ap (λ at. unsigned_abs (number_of (item_of p (take (length p.shape) row))) ∷ at) more
    ∙ ap (λ part. unsigned_abs (number_of (item_of p (take (length p.shape) row))) ∷ others_index (r ∷ rest) (drop (length p.shape) row) ++ own_index (last_position (r ∷ rest)) (part ++ i ∷ []) ∷ []) end

-- the last item of a list is the last item of its rest, if that is not empty
last_later : {A : Type 0} (x y : A) (xs : List A) (d : A) → get_or (x ∷ y ∷ xs) (length (x ∷ y ∷ xs) - 1) d ≡ get_or (y ∷ xs) (length (y ∷ xs) - 1) d
last_later x y xs d =
    let one : length (x ∷ y ∷ xs) - 1 ≡ suc (length xs) = omega arith in
    let none : length xs ≡ length (y ∷ xs) - 1 = omega arith in
    ap (λ k. get_or (x ∷ y ∷ xs) k d) one ∙ ap (λ k. get_or (y ∷ xs) k d) none

-- the shape of its index lists, and the length of its last axis
abbrev own_shape : List ℕ → Position → List ℕ
own_shape axes q = position_axes (get_or axes (length axes - 1) 0) q

-- the end of an index list of the result is one of the last position
own_below : (axes : List ℕ) (positions : List Position) (row : List ℕ) (i : ℕ) → length positions ≡ length axes → 0 < length positions
    → is_index_of (indexed_shape axes positions) (row ++ i ∷ []) ≡ true → 0 < own_rank (last_position positions)
    → is_index_of (own_shape axes (last_position positions)) (own_part (last_position positions) row ++ i ∷ []) ≡ true
own_below axes [] row i same some inside own = absurd (omega arith)
own_below [] (q ∷ rest) row i same some inside own = absurd (omega arith)
own_below (n ∷ m ∷ axes) (q ∷ []) row i same some inside own = absurd (omega arith)
own_below (n ∷ []) (q ∷ []) row i same some inside own =
    let here : is_index_of (position_axes n q) (row ++ i ∷ []) ≡ true = subst (λ s. is_index_of s (row ++ i ∷ []) ≡ true) (append-nil (position_axes n q)) inside in
    let long = as_long (position_axes n q) (row ++ i ∷ []) here in
    let pushed = length_push row i in
    let ranked = axes_long n q in
    let none : length row + 1 - own_rank q ≡ 0 = omega arith in
    let part : own_part q row ++ i ∷ [] ≡ row ++ i ∷ [] = ap (λ k. drop k row ++ i ∷ []) none in
    rw part here
own_below (n ∷ axes) (q ∷ r ∷ rest) row i same some inside own =
    let parts = split_inside (position_axes n q) (indexed_shape axes (r ∷ rest)) (row ++ i ∷ []) inside in
    let long = as_long (position_axes n q ++ indexed_shape axes (r ∷ rest)) (row ++ i ∷ []) inside in
    let joined = length-append (position_axes n q) (indexed_shape axes (r ∷ rest)) in
    let pushed = length_push row i in
    let few = own_axes axes (r ∷ rest) (omega arith) (omega arith) in
    let after : drop (length (position_axes n q)) (row ++ i ∷ []) ≡ drop (length (position_axes n q)) row ++ i ∷ [] =
    drop-append-le (length (position_axes n q)) row (i ∷ []) (omega arith) in
    let more = own_below axes (r ∷ rest) (drop (length (position_axes n q)) row) i (omega arith) (omega arith) (rw after at parts.others) own in
    let end = own_part_later (last_position (r ∷ rest)) row (length (position_axes n q)) (omega arith) (omega arith) in
    subst (λ part. is_index_of (own_shape (n ∷ axes) (last_position (r ∷ rest))) (part ++ i ∷ []) ≡ true) end
    (subst (λ m. is_index_of (position_axes m (last_position (r ∷ rest))) (own_part (last_position (r ∷ rest)) (drop (length (position_axes n q)) row) ++ i ∷ []) ≡ true) (later_axis axes (omega arith)) more)
  where
    later_axis : (axes : List ℕ) → 0 < length axes → get_or axes (length axes - 1) 0 ≡ get_or (n ∷ axes) (length (n ∷ axes) - 1) 0
    later_axis [] none = absurd (omega arith)
    later_axis (m ∷ axes) none = sym (last_later n m axes 0)

-- the last position is on the last axis
last_on : (axes : List ℕ) (positions : List Position) → length positions ≡ length axes → 0 < length positions → are_on axes positions ≡ true
    → is_on (get_or axes (length axes - 1) 0) (last_position positions) ≡ true
last_on axes [] same some on = absurd (omega arith)
last_on [] (q ∷ rest) same some on = absurd (omega arith)
last_on (n ∷ []) (q ∷ []) same some on = (and_parts (is_on n q) _ on).0
last_on (n ∷ m ∷ axes) (q ∷ []) same some on = absurd (omega arith)
last_on (n ∷ []) (q ∷ r ∷ rest) same some on = absurd (omega arith)
last_on (n ∷ m ∷ axes) (q ∷ r ∷ rest) same some on =
    ap (λ k. is_on k (last_position (r ∷ rest))) (last_later n m axes 0) ∙ last_on (m ∷ axes) (r ∷ rest) (omega arith) (omega arith) (and_parts (is_on n q) _ on).1

-- an index that it holds is on its axis
own_on : (n : ℕ) (q : Position) (own : List ℕ) (i : ℕ) → is_index_of (position_axes n q) (own ++ i ∷ []) ≡ true → is_on n q ≡ true → ((p : ArrayValue) → q ≡ Some p → IsArray p)
    → OnAxis n (own_index q (own ++ i ∷ []))
own_on n (Some p) own i inside on sound = index_on_axis n p (own ++ i ∷ []) (sound p refl) inside on
own_on n None [] i inside on sound = let end = row_end (n ∷ []) [] i inside in record { low = end.low; high = end.high }
own_on n None (j ∷ own) i inside on sound = let end = row_end (n ∷ []) (j ∷ own) i inside in absurd (omega (arith, end.long))

-- ---- the last of the written positions

pub record IsLast (positions : List Position) (args : List ArrayValue) : Type 0 where
  pub some : 0 < length args
  pub is : (p : ArrayValue) → p ≡ get_or args (length args - 1) p → last_position positions ≡ Some p

pub last_written : (written : List Bool) (args : List ArrayValue) → length args ≡ count_written written → 0 < length written → get_or written (length written - 1) false ≡ true
    → IsLast (written_positions written args) args
last_written [] args long some h = absurd (omega arith)
last_written (false ∷ []) args long some h = let no : ⊥ = cc in absurd no
last_written (true ∷ []) [] long some h = absurd (omega arith)
last_written (true ∷ []) (p ∷ []) long some h = record { some = omega arith; is = λ q e. ap (λ (x : ArrayValue). Some x) (sym e) }
last_written (true ∷ []) (p ∷ r ∷ args) long some h = absurd (omega arith)
last_written (false ∷ false ∷ written) args long some h =
    let last = last_written (false ∷ written) args long (omega arith) (sym (last_later false false written false) ∙ h) in
    record { some = last.some; is = last.is }
last_written (false ∷ true ∷ written) [] long some h = absurd (omega arith)
last_written (false ∷ true ∷ written) (p ∷ args) long some h =
    let last = last_written (true ∷ written) (p ∷ args) long (omega arith) (sym (last_later false true written false) ∙ h) in
    record { some = last.some; is = last.is }
last_written (true ∷ w ∷ written) [] long some h = absurd (omega arith)
last_written (true ∷ false ∷ written) (p ∷ args) long some h = one_more p args (last_written (false ∷ written) args (omega arith) (omega arith) (sym (last_later true false written false) ∙ h))
  where
    one_more : (p : ArrayValue) (args : List ArrayValue) → IsLast (written_positions (false ∷ written) args) args → IsLast (written_positions (true ∷ false ∷ written) (p ∷ args)) (p ∷ args)
    one_more p [] last = absurd (omega (arith, last.some))
    one_more p (r ∷ args) last = record { some = omega arith; is = λ q e. last.is q (e ∙ last_later p r args q) }
last_written (true ∷ true ∷ written) (p ∷ []) long some h = absurd (omega arith)
last_written (true ∷ true ∷ written) (p ∷ r ∷ args) long some h =
    let last = last_written (true ∷ written) (r ∷ args) (omega arith) (omega arith) (sym (last_later true true written false) ∙ h) in
    record { some = omega arith; is = λ q e. last.is q (e ∙ last_later p r args q) }

-- ---- a row of the result

-- an item of the array is the item of the result
pub item_there : (a : ArrayValue) (at : List ℕ) → is_index_of a.shape at ≡ true
    → item_from a a a.item_type (Place 0 at) ≡ Ok (get_or a.items (places_before a.shape at) (fill a.item_type))
item_there a at h = ap (λ w. Ok (unwrap_or (cond w (Some (get_or a.items (places_before a.shape at) (fill a.item_type))) None) (fill a.item_type))) h

-- the item at place i of a row is the item at place x of the array's row that begins after `before` items
pub record IsItemOfRow (a : ArrayValue) (positions : List Position) (row : List ℕ) (before x i : ℕ) : Type 0 where
  pub is : index_item a positions (row ++ i ∷ []) ≡ Ok (get_or a.items (before + x - 1) (fill a.item_type))
  pub low : 1 ≤ x
  pub high : before + x ≤ size a.shape

module _ (a : ArrayValue) (positions : List Position) (row : List ℕ) (before count : ℕ)
    (one_an_axis : length positions ≡ length a.shape) (some : 0 < length positions) (on : are_on a.shape positions ≡ true)
    (own : 0 < own_rank (last_position positions)) (sound : (p : ArrayValue) → last_position positions ≡ Some p → IsArray p)
    (places : (i : ℕ) → 1 ≤ i → i ≤ count → is_index_of (indexed_shape a.shape positions) (row ++ i ∷ []) ≡ true)
    (there : is_index_of a.shape (source_index positions (row ++ 1 ∷ [])) ≡ true)
    (begins : before + get_or (source_index positions (row ++ 1 ∷ [])) (length a.shape - 1) 0 ≡ places_before a.shape (source_index positions (row ++ 1 ∷ [])) + 1) where
  abbrev pub index_at : ℕ → ℕ
  index_at i = own_index (last_position positions) (own_part (last_position positions) row ++ i ∷ [])

  abbrev others : List ℕ
  others = others_index positions row

  row_long : (i : ℕ) → 1 ≤ i → i ≤ count → length row + 1 ≡ length (indexed_shape a.shape positions)
  row_long i low high = omega (arith, as_long (indexed_shape a.shape positions) (row ++ i ∷ []) (places i low high), length_push row i)

  comes_from : (i : ℕ) → 1 ≤ i → i ≤ count → source_index positions (row ++ i ∷ []) ≡ others ++ index_at i ∷ []
  comes_from i low high = source_ends a.shape positions row i one_an_axis some (row_long i low high) own

  pub item_of_row : (i : ℕ) → 1 ≤ i → i ≤ count → IsItemOfRow a positions row before (index_at i) i
  item_of_row i low high =
      let first = comes_from 1 (omega arith) (omega arith) in
      let first_there : is_index_of a.shape (others ++ index_at 1 ∷ []) ≡ true = subst (λ at. is_index_of a.shape at ≡ true) first there in
      let long = (row_end a.shape others (index_at 1) first_there).long in
      let last_at : get_or (others ++ index_at 1 ∷ []) (length a.shape - 1) 0 ≡ index_at 1 =
      ap (λ k. get_or (others ++ index_at 1 ∷ []) k 0) (let e : length a.shape - 1 ≡ length others = omega arith in e) ∙ get_or-append_seam others (index_at 1) [] 0 in
      let begun : before + index_at 1 ≡ places_before a.shape (others ++ index_at 1 ∷ []) + 1 =
      ap (λ k. before + k) (sym last_at) ∙ subst (λ at. before + get_or at (length a.shape - 1) 0 ≡ places_before a.shape at + 1) first begins in
      let below_own = own_below a.shape positions row i one_an_axis some (places i low high) own in
      let on_axis = own_on (get_or a.shape (length a.shape - 1) 0) (last_position positions) (own_part (last_position positions) row) i below_own (last_on a.shape positions one_an_axis some on) sound in
      let axis : get_or a.shape (length a.shape - 1) 0 ≡ get_or a.shape (length others) 0 = ap (λ k. get_or a.shape k 0) (let e : length a.shape - 1 ≡ length others = omega arith in e) in
      let this_there = same_row a.shape others (index_at 1) (index_at i) first_there on_axis.low (omega arith) in
      let beside = places_in_row a.shape others (index_at 1) (index_at i) first_there on_axis.low in
      let below = places_below a.shape (others ++ index_at i ∷ []) this_there in
      record {
        is = ap (λ at. item_from a a a.item_type (Place 0 at)) (comes_from i low high) ∙ item_there a (others ++ index_at i ∷ []) this_there
            ∙ ap (λ k. Ok (get_or a.items k (fill a.item_type))) (omega arith);
        low = on_axis.low;
        high = omega arith;
      }

-- ---- the conditions of calls

-- the type of a row is the array's
pub row_typed : (a : ArrayValue) (positions : List Position) (row : List ℕ) (count : ℕ) (item_type : ItemType) → IsRowIn (index_form a positions) row count item_type → a.item_type ≡ item_type
row_typed a positions row count item_type h =
    let ranks = row_passed (not (is_scalar a) && nat_eq (length positions) (length a.shape)) _ _ row count item_type h in
    let counted = row_passed (list_all are_numbers positions) _ _ row count item_type ranks.row_in in
    (row_inside (indexed_shape a.shape positions) a.item_type row count item_type (row_passed (are_on a.shape positions) _ _ row count item_type counted.row_in).row_in).typed

-- the last index of an index list is at most one more than the number of places before it
pub last_index_below : (shape at : List ℕ) → is_index_of shape at ≡ true → get_or at (length at - 1) 0 ≤ places_before shape at + 1
last_index_below [] [] h = omega arith
last_index_below [] (i ∷ at) h = cc
last_index_below (n ∷ shape) [] h = cc
last_index_below (n ∷ []) (i ∷ []) h = omega arith
last_index_below (n ∷ []) (i ∷ j ∷ at) h = absurd (false≢true (head_of n i [] (j ∷ at) h).rest)
last_index_below (n ∷ m ∷ shape) (i ∷ []) h = absurd (false≢true (head_of n i (m ∷ shape) [] h).rest)
last_index_below (n ∷ m ∷ shape) (i ∷ j ∷ at) h =
    let before : places_before (n ∷ m ∷ shape) (i ∷ j ∷ at) ≡ (i - 1) * size (m ∷ shape) + places_before (m ∷ shape) (j ∷ at) = refl in
    omega (arith, last_index_below (m ∷ shape) (j ∷ at) (head_of n i (m ∷ shape) (j ∷ at) h).rest, last_later i j at 0, before)

-- the indices that a row takes are contiguous
pub indices_of_row : (p : ArrayValue) (zs : List ℤ) (own : List ℕ) (count : ℕ) → IsArray p → p.items ≡ map (λ z. Num z) zs
    → ((i : ℕ) → 1 ≤ i → i ≤ count → is_index_of p.shape (own ++ i ∷ []) ≡ true) → 0 < count
    → (places_before p.shape (own ++ 1 ∷ []) + count ≤ length zs)
    × ((i : ℕ) → i < count → number_of (item_of p (own ++ (i + 1) ∷ [])) ≡ get_or zs (places_before p.shape (own ++ 1 ∷ []) + i) (pos 0))
indices_of_row p zs own count sound numbered places some =
    let long : length p.items ≡ length zs = ap length numbered ∙ length-map zs (λ z. Num z) in
    let stands : (i : ℕ) → i < count → (places_before p.shape (own ++ (i + 1) ∷ []) ≡ places_before p.shape (own ++ 1 ∷ []) + i) × (places_before p.shape (own ++ 1 ∷ []) + i < length zs) =
    λ i h.
    let beside = places_in_row p.shape own 1 (i + 1) (places 1 (omega arith) (omega arith)) (omega arith) in
    let below = places_below p.shape (own ++ (i + 1) ∷ []) (places (i + 1) (omega arith) (omega arith)) in
    (omega arith, omega arith) in (
      let last = (stands (count - 1) (omega arith)).1 in omega arith,
      λ i h.
          let here = stands i h in
          ap (λ k. number_of (get_or p.items k (fill p.item_type))) here.0
          ∙ ap (λ xs. number_of (get_or xs (places_before p.shape (own ++ 1 ∷ []) + i) (fill p.item_type))) numbered
          ∙ ap number_of (get_or-map (λ z. Num z) zs (places_before p.shape (own ++ 1 ∷ []) + i) (pos 0) (fill p.item_type) here.1),
    )

-- the facts of a row of the result
pub record IsRowOfIndex (written : List Bool) (args : List ArrayValue) (a : ArrayValue) (row : List ℕ) (count : ℕ) : Type 0 where
  pub args_are : args ≡ a ∷ drop 1 args
  pub counted : length (drop 1 args) ≡ count_written written
  pub written_some : 0 < length written
  pub one_an_axis : length (written_positions written (drop 1 args)) ≡ length a.shape
  pub some : 0 < length (written_positions written (drop 1 args))
  pub on : are_on a.shape (written_positions written (drop 1 args)) ≡ true
  pub places : (i : ℕ) → 1 ≤ i → i ≤ count → is_index_of (indexed_shape a.shape (written_positions written (drop 1 args))) (row ++ i ∷ []) ≡ true
  pub positive : 0 < count

array_first : (written : List Bool) (args : List ArrayValue) (a : ArrayValue) → length args ≡ suc (count_written written) → a ≡ get_or args 0 a → args ≡ a ∷ drop 1 args
array_first written [] a long is = absurd (omega arith)
array_first written (x ∷ rest) a long is = ap (λ (y : ArrayValue). y ∷ rest) (sym is)

some_axes : (axes : List ℕ) (positions : List Position) → 0 < length (indexed_shape axes positions) → 0 < length axes
some_axes [] positions some = some
some_axes (n ∷ axes) positions some = omega arith

pub row_of_index : (written : List Bool) (args : List ArrayValue) (a : ArrayValue) (row : List ℕ) (count : ℕ) (item_type : ItemType) → length args ≡ suc (count_written written)
    → a ≡ get_or args 0 a → IsRowIn (of_array_and_positions written index_form args) row count item_type → IsRowOfIndex written args a row count
row_of_index written args a row count item_type long is h =
    let whole = array_first written args a long is in
    let rest = drop 1 args in
    let positions = written_positions written rest in
    let counted : length rest ≡ count_written written = simp length-drop (omega arith) in
    let row_in : IsRowIn (index_form a positions) row count item_type = subst (λ xs. IsRowIn (of_array_and_positions written index_form xs) row count item_type) whole h in
    let positive = row_some (index_form a positions) row count item_type row_in in
    let passed = λ (i : ℕ) (low : 1 ≤ i) (high : i ≤ count). has_passed a written rest (row ++ i ∷ []) counted (place_of_row (index_form a positions) row count item_type i row_in low high) in
    let first = passed 1 (omega arith) (omega arith) in
    let as_many = positions_long written rest counted in
    let indexed = as_long (indexed_shape a.shape positions) (row ++ 1 ∷ []) first.inside in
    let pushed = length_push row 1 in
    let axes = some_axes a.shape positions (omega arith) in
    record {
      args_are = whole;
      counted = counted;
      written_some = omega arith;
      one_an_axis = omega arith;
      some = omega arith;
      on = first.on;
      places = λ i low high. (passed i low high).inside;
      positive = positive;
    }
  where
    row_some : (form : Result Form Kind) (row : List ℕ) (count : ℕ) (item_type : ItemType) → IsRowIn form row count item_type → 0 < count
    row_some (Ok form) row count item_type h = h.0.some
    row_some (Err kind) row count item_type h = absurd h

-- the items of a row, where the last position has an axis
module _ (written : List Bool) (args : List ArrayValue) (a : ArrayValue) (row : List ℕ) (count : ℕ) (known : IsRowOfIndex written args a row count) (before : ℕ)
    (there : is_index_of a.shape (source_index (written_positions written (drop 1 args)) (row ++ 1 ∷ [])) ≡ true)
    (begins : before + get_or (source_index (written_positions written (drop 1 args)) (row ++ 1 ∷ [])) (length a.shape - 1) 0
    ≡ places_before a.shape (source_index (written_positions written (drop 1 args)) (row ++ 1 ∷ [])) + 1) where
  abbrev all_positions : List Position
  all_positions = written_positions written (drop 1 args)

  of_last : (q : Position) → last_position all_positions ≡ q → 0 < own_rank q → ((p : ArrayValue) → q ≡ Some p → IsArray p) → (i : ℕ) → 1 ≤ i → i ≤ count
      → IsItemOfRow a all_positions row before (own_index q (own_part q row ++ i ∷ [])) i
  of_last q last own sound i low high =
      subst (λ r. IsItemOfRow a all_positions row before (own_index r (own_part r row ++ i ∷ [])) i) last
      (item_of_row a all_positions row before count known.one_an_axis known.some known.on (subst (λ r. 0 < own_rank r) (sym last) own) (λ p e. sound p (sym last ∙ e)) known.places there begins i low high)

  module _ (p : ArrayValue) (last : last_position all_positions ≡ Some p) (own : 0 < length p.shape) (sound : IsArray p) (indices : List ℤ)
      (taken : (i : ℕ) → i < count → get_or indices i (pos 0) ≡ number_of (item_of p (drop (length row + 1 - length p.shape) row ++ (i + 1) ∷ []))) where
    pub of_indices : (j : ℕ) → j < count → IsItemOfRow a all_positions row before (unsigned_abs (get_or indices j (pos 0))) (0 + j + 1)
    of_indices j h =
        subst (λ x. IsItemOfRow a all_positions row before x (0 + j + 1))
        (ap (λ i. unsigned_abs (number_of (item_of p (drop (length row + 1 - length p.shape) row ++ i ∷ [])))) (omega arith) ∙ ap unsigned_abs (sym (taken j h)))
        (of_last (Some p) last own (λ r e. let same : p ≡ r = cc in subst IsArray same sound) (0 + j + 1) (omega arith) (omega arith))

-- the end of a row is an index list of the last position
pub own_few : (written : List Bool) (args : List ArrayValue) (a : ArrayValue) (row : List ℕ) (count : ℕ) → IsRowOfIndex written args a row count → (p : ArrayValue)
    → last_position (written_positions written (drop 1 args)) ≡ Some p → length p.shape ≤ length row + 1
own_few written args a row count known p last =
    let positions = written_positions written (drop 1 args) in
    let few : own_rank (Some p) ≤ length (indexed_shape a.shape positions) = subst (λ q. own_rank q ≤ length (indexed_shape a.shape positions)) last (own_axes a.shape positions known.one_an_axis known.some) in
    omega (arith, as_long (indexed_shape a.shape positions) (row ++ 1 ∷ []) (known.places 1 (omega arith) (omega arith)), length_push row 1)

pub own_places : (written : List Bool) (args : List ArrayValue) (a : ArrayValue) (row : List ℕ) (count : ℕ) → IsRowOfIndex written args a row count → (p : ArrayValue)
    → last_position (written_positions written (drop 1 args)) ≡ Some p → 0 < length p.shape → (i : ℕ) → 1 ≤ i → i ≤ count
    → is_index_of p.shape (drop (length row + 1 - length p.shape) row ++ i ∷ []) ≡ true
own_places written args a row count known p last own i low high =
    subst (λ q. is_index_of (own_shape a.shape q) (own_part q row ++ i ∷ []) ≡ true) last
    (own_below a.shape (written_positions written (drop 1 args)) row i known.one_an_axis known.some (known.places i low high) (subst (λ q. 0 < own_rank q) (sym last) own))
