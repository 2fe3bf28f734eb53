-- The place that a source names lies in its argument.
use Rattle.std.{proofs.Common.{◌≡◌, ℕ, zero, suc, ◌-◌, ◌<◌, ◌≤◌, ℤ, pos, Bool, true, false, ◌||◌, nat_eq, nat_le, if◌then◌else◌, unsigned_abs, List, [], ◌∷◌, length, map, get_or, take, drop, set, insert, remove, replicate, refl, ap, subst, ◌∙◌, arith}, specs.Prelude.{max, sum}, specs.List.{list_all}}
use Rattle.std.{proofs.lemmas.Bool.{and_parts, and_from, eqb-true, eqb-false, false≢true}, proofs.lemmas.Bool.Decides.{nat_tests}, proofs.lemmas.Grind.{get_or_default_zero}, proofs.lemmas.List.{length-map, length-replicate, get_or-map}}
use Rattle.arrays_core.{specs.Items.{fill}, specs.Arrays.{ArrayValue, IsArray, item_of}, specs.Shapes.{is_index_of, places_before}, proofs.Shapes.{places_below}}
use Rattle.function_names.{specs.declared.along.Along.{Along}, specs.Axes.{is_axis, axis_at}}
use Rattle.index_region.{specs.Arguments.{is_scalar, is_list, has_one_item, number_of, numbers}, specs.Axes.{places_along}, specs.Answers.{IsPlaceOf}, specs.Sources.{Place}, proofs.Passing.{passed}, proofs.OnAxes.{OnAxis, scalar_inside, one_more_inside}, proofs.RowIndices.{axis_below}}
use Rattle.selection_fns.{specs.Index.{is_on_axis, are_on, written_positions, count_written, indexed_shape, source_index}, specs.Replicate.{times, maker, copied_place, replicate_form, replicate_source}, proofs.Positions.{place_in, split_inside}, specs.Laws.RepeatedPlaces.{sum_front, walk, maker_is_walk}}
use Rattle.selection_fns.{proofs.Repeated.{maker_positive}, specs.Laws.CopiedPlaces.{is_copied}, proofs.Copies.{replicated_inside, on_axis}}

-- ---- indexes

each_on : (n : ℕ) (zs : List ℤ) (k : ℕ) → list_all (is_on_axis n) zs ≡ true → k < length zs → is_on_axis n (get_or zs k (pos 0)) ≡ true
each_on n [] k h below = absurd (omega arith)
each_on n (z ∷ zs) zero h below = (and_parts _ _ h).0
each_on n (z ∷ zs) (suc k) h below = each_on n zs k (and_parts _ _ h).1 (omega arith)

-- an index of a position that is on an axis
pub index_on_axis : (n : ℕ) (p : ArrayValue) (at : List ℕ) → IsArray p → is_index_of p.shape at ≡ true → list_all (is_on_axis n) (numbers p) ≡ true
    → OnAxis n (unsigned_abs (number_of (item_of p at)))
index_on_axis n p at sound inside on =
    let k = places_before p.shape at in
    let below = places_below p.shape at inside in
    let numbered = length-map p.items number_of in
    let read : get_or (numbers p) k (pos 0) ≡ number_of (item_of p at) = get_or-map number_of p.items k (fill p.item_type) (pos 0) (omega arith) in
    let place = place_in n (get_or (numbers p) k (pos 0)) (each_on n (numbers p) k on (omega arith)) in
    let same : unsigned_abs (get_or (numbers p) k (pos 0)) ≡ unsigned_abs (number_of (item_of p at)) = ap unsigned_abs read in
    record { low = omega (arith, place.low); high = omega (arith, place.high) }

-- the index list by positions, where the first is written
pub written_inside : (axes : List ℕ) (written : List Bool) (args : List ArrayValue) (index : List ℕ) (p : ArrayValue)
    → length written ≡ length axes → length args ≡ count_written written → get_or written 0 false ≡ true → p ≡ get_or args 0 p → IsArray p
    → are_on axes (written_positions written args) ≡ true → is_index_of (indexed_shape axes (written_positions written args)) index ≡ true
    → is_index_of (drop 1 axes) (source_index (written_positions (drop 1 written) (drop 1 args)) (drop (length p.shape) index)) ≡ true
    → is_index_of axes (source_index (written_positions written args) index) ≡ true
written_inside axes [] args index p same long h is sound on inside rest = absurd (false≢true h)
written_inside axes (false ∷ written) args index p same long h is sound on inside rest = absurd (false≢true h)
written_inside [] (true ∷ written) args index p same long h is sound on inside rest = absurd (omega arith)
written_inside (n ∷ axes) (true ∷ written) [] index p same long h is sound on inside rest = absurd (omega arith)
written_inside (n ∷ axes) (true ∷ written) (a ∷ args) index p same long h is sound on inside rest =
    let first = (split_inside a.shape (indexed_shape axes (written_positions written args)) index inside).first in
    let here = index_on_axis n a (take (length a.shape) index) (subst IsArray is sound) first (and_parts _ _ on).0 in
    one_more_inside n (unsigned_abs (number_of (item_of a (take (length a.shape) index)))) axes (source_index (written_positions written args) (drop (length a.shape) index)) here
    (subst (λ (q : ArrayValue). is_index_of axes (source_index (written_positions written args) (drop (length q.shape) index)) ≡ true) is rest)

-- ---- replicate

walk_within : (counts : List ℕ) (i : ℕ) → 1 ≤ i → i ≤ sum counts → walk counts i ≤ length counts
walk_within [] i low high = absurd (omega arith)
walk_within (count ∷ counts) i low high = decide (nat_le i count) refl (λ j. walk_within counts j)
  where
    decide : (b : Bool) → nat_le i count ≡ b → ((j : ℕ) → 1 ≤ j → j ≤ sum counts → walk counts j ≤ length counts)
        → (if b then 1 else suc (walk counts (i - count))) ≤ suc (length counts)
    decide true h later = omega arith
    decide false h later =
        let above : count < i = grind (arith, nat_tests) in
        let front = sum_front count counts in
        omega (arith, later (i - count) (omega arith) (omega arith))

times_long : (a : ArrayValue) (n : ℕ) → (has_one_item a || nat_eq (length a.items) n) ≡ true → length (times a n) ≡ n
times_long a n h = by_test (has_one_item a) h
  where
    by_test : (one : Bool) → (one || nat_eq (length a.items) n) ≡ true
        → length (if one then replicate n (unsigned_abs (number_of (item_of a []))) else map unsigned_abs (numbers a)) ≡ n
    by_test true h = length-replicate n (unsigned_abs (number_of (item_of a [])))
    by_test false h = length-map (numbers a) unsigned_abs ∙ length-map a.items number_of ∙ eqb-true (length a.items) n h

-- the place of a copy is on its axis
copied_on_axis : (a : ArrayValue) (n i : ℕ) → (has_one_item a || (nat_eq n 1 || nat_eq (length a.items) n)) ≡ true → 1 ≤ i → i ≤ sum (times a n)
    → OnAxis n (copied_place a n i)
copied_on_axis a n i h low high = by_test (nat_eq n 1) refl h
  where
    by_test : (one : Bool) → nat_eq n 1 ≡ one → (has_one_item a || (one || nat_eq (length a.items) n)) ≡ true → OnAxis n (if one then 1 else maker (times a n) i)
    by_test true e h = let same = eqb-true n 1 e in record { low = omega arith; high = omega arith }
    by_test false e h =
        let long = times_long a n h in
        let is = maker_is_walk (times a n) i low high in
        let within = walk_within (times a n) i low high in
        record { low = maker_positive (times a n) i; high = omega arith }

-- an index list of a shape with one axis replaced, with an index of that axis
exchanged_inside : (shape index : List ℕ) (k m i : ℕ) → k < length shape → is_index_of (insert (remove shape k) k m) index ≡ true → OnAxis (get_or shape k 0) i
    → is_index_of shape (set index k i) ≡ true
exchanged_inside [] index k m i below h on = absurd (omega arith)
exchanged_inside (n ∷ shape) [] zero m i below h on = absurd (false≢true h)
exchanged_inside (n ∷ shape) [] (suc k) m i below h on = absurd (false≢true h)
exchanged_inside (n ∷ shape) (j ∷ index) zero m i below h on = one_more_inside n i shape index on (and_parts _ _ h).1
exchanged_inside (n ∷ shape) (j ∷ index) (suc k) m i below h on =
    let parts = and_parts _ _ h in
    and_from _ _ parts.0 (exchanged_inside shape index k m i (omega arith) parts.1 on)

pub copied_inside : (a : ArrayValue) (shape index : List ℕ) (k : ℕ) → k < length shape
    → (has_one_item a || (nat_eq (places_along shape k) 1 || nat_eq (length a.items) (places_along shape k))) ≡ true
    → is_index_of (insert (remove shape k) k (sum (times a (places_along shape k)))) index ≡ true
    → is_index_of shape (set index k (copied_place a (places_along shape k) (get_or index k 1))) ≡ true
copied_inside a shape index k below counted h =
    let n = places_along shape k in
    let copy = is_copied shape k (sum (times a n)) index below h in
    let axis : n ≡ get_or shape k 0 = get_or_default_zero shape k 1 below in
    let i = get_or_default_zero index k 1 (let long = copy.long in omega arith) in
    let on = copied_on_axis a n (get_or index k 1) counted (omega (arith, copy.low)) (omega (arith, copy.high)) in
    exchanged_inside shape index k (sum (times a n)) (copied_place a n (get_or index k 1)) below h (record { low = on.low; high = omega (arith, on.high) })

-- there are as many counts as places, unless either is one
pub counts_fit : (along : Along) (a b : ArrayValue) (index : List ℕ) (k : ℕ) → k ≡ axis_at (max 1 (length b.shape)) along → IsPlaceOf (replicate_form along a b) index
    → (has_one_item a || (nat_eq (places_along b.shape k) 1 || nat_eq (length a.items) (places_along b.shape k))) ≡ true
counts_fit along a b index k e h =
    let n = places_along b.shape (axis_at (max 1 (length b.shape)) along) in
    let ranks = passed (is_list a) _ _ index (passed (is_axis (max 1 (length b.shape)) along) _ _ index h).place in
    rw e (passed (has_one_item a || (nat_eq n 1 || nat_eq (length a.items) n)) _ _ index ranks.place).test

-- the source of a copy lies in the array
pub replicate_inside : (along : Along) (a b : ArrayValue) (index at : List ℕ) → Place 1 at ≡ replicate_source along a b index → IsPlaceOf (replicate_form along a b) index
    → is_index_of b.shape at ≡ true
replicate_inside along a b index at e h = by_test (is_scalar b) refl e
  where
    k : ℕ
    k = axis_at (max 1 (length b.shape)) along

    by_test : (scalar : Bool) → is_scalar b ≡ scalar
        → Place 1 at ≡ Place 1 (if scalar then [] else set index k (copied_place a (places_along b.shape k) (get_or index k 1))) → is_index_of b.shape at ≡ true
    by_test true t e =
        let none : at ≡ [] = cc in
        rw none (scalar_inside b.shape (eqb-true (length b.shape) 0 t))
    by_test false t e =
        let there = eqb-false (length b.shape) 0 t in
        let rank : max 1 (length b.shape) ≡ length b.shape = omega arith in
        let below : k < length b.shape = omega (arith, rank, axis_below (max 1 (length b.shape)) along (on_axis along a b index h) (omega arith)) in
        let is : at ≡ set index k (copied_place a (places_along b.shape k) (get_or index k 1)) = cc in
        rw is (copied_inside a b.shape index k below (counts_fit along a b index k refl h) (replicated_inside along a b index h))
