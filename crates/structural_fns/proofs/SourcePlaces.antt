-- The index list of a source lies in its argument.
use Rattle.std.{proofs.Common.{◌≡◌, ℕ, zero, suc, ◌≤◌, map, zip, ◌+◌, ◌-◌, ◌<◌, ◌%◌, nat_eq, ◌&&◌, ℤ, pos, negsuc, ◌+ℤ◌, ◌-ℤ◌, unsigned_abs, Bool, true, false, if◌then◌else◌, List, [], ◌∷◌, length, get_or, replicate, set, reverse, refl, subst, arith}, specs.Int.{int_rem_euclid}, specs.List.{filter}}
use Rattle.std.{proofs.lemmas.Bool.{and_parts, leb-true, eqb-true, eq-eqb, false≢true}, proofs.lemmas.List.{length-map, get_or-map, length-reverse, get_or-reverse}, proofs.lemmas.List.FromFn.{get_or-map-range_with_len, length-map-range_with_len}, proofs.lemmas.Grind.{get_or_default_zero}, proofs.lemmas.Nat.{mod_below}}
use Rattle.arrays_core.{specs.Arrays.{ArrayValue}, specs.Shapes.{size, is_index_of, index_after}, proofs.Order.{index_after-within}, proofs.Shapes.{as_long, head_of}}
use Rattle.index_region.{specs.Axes.{places_along}, specs.Arguments.{is_scalar, is_list, counts_as_numbers, numbers}, specs.Answers.{IsPlaceOf}, proofs.Passing.{passed, place_inside}, proofs.OnAxes.{OnAxis, scalar_inside, one_more_inside, on_axis, inside_by_axes, set_inside}}
use Rattle.structural_fns.{specs.Ravel.{ravel_form}, specs.Transpose.{transpose_form}, specs.Rotate.{rotated_place}, specs.AxisCounts.{counted_shape, uncounted}, specs.Drop.{dropped_shape, kept_places}}
use Rattle.structural_fns.{specs.DyadicTranspose.{axes_to, greatest_of, least_of, all_positive, are_axes, lengths_at, transposed_shape, gathered, transpose_by_form}, proofs.Turning.{residue_euclid}, proofs.Counting.{numbers_long, magnitudes_long, magnitude_at}, proofs.Entries.{entries_long}}

pub ravel_inside : (b : ArrayValue) (index : List ℕ) → IsPlaceOf (ravel_form b) index
    → is_index_of b.shape (index_after b.shape (get_or index 0 0 - 1)) ≡ true
ravel_inside b index h =
    let one = on_axis (size b.shape ∷ []) index 0 (place_inside (size b.shape ∷ []) b.item_type index h) (omega arith) in
    index_after-within b.shape (get_or index 0 0 - 1) (omega (arith, one.low, one.high))

-- the places of a repeated array
pub recycled_inside : (shape : List ℕ) (before places : ℕ) → places ≡ size shape → 0 < places → is_index_of shape (index_after shape (before % places)) ≡ true
recycled_inside shape before places e some = index_after-within shape (before % places) (omega (arith, mod_below before places some))

pub reversed_inside : (shape index : List ℕ) (k : ℕ) → is_index_of shape index ≡ true
    → is_index_of shape (set index k (suc (places_along shape k) - get_or index k 1)) ≡ true
reversed_inside shape index k h =
    let long = as_long shape index h in
    set_inside shape index k _ h (λ below.
    let on = on_axis shape index k h below in
    let n = get_or_default_zero shape k 1 below in
    let i = get_or_default_zero index k 1 (omega arith) in
    record { low = omega (arith, on.high); high = omega (arith, on.low) })

pub transpose_inside : (b : ArrayValue) (index : List ℕ) → IsPlaceOf (transpose_form b) index → is_index_of b.shape (reverse index) ≡ true
transpose_inside b index h =
    let shape = b.shape in
    let inside = place_inside (reverse shape) b.item_type index h in
    let turned = length-reverse shape in
    let long = as_long (reverse shape) index inside in
    let same = length-reverse index in
    inside_by_axes shape (reverse index) (omega arith) (λ k below.
    let other : ℕ = length index - 1 - k in
    let on = on_axis (reverse shape) index other inside (omega arith) in
    let i = get_or-reverse index k 0 (omega arith) in
    let back : length shape - 1 - other ≡ k = omega arith in
    let axis : get_or (reverse shape) other 0 ≡ get_or shape k 0 = rw back at (get_or-reverse shape other 0 (omega arith)) in
    record { low = omega (arith, on.low); high = omega (arith, on.high) })

-- a place that is counted cyclically is on its axis
pub rotated_on_axis : (n : ℕ) (amount : ℤ) (i : ℕ) → 0 < n → OnAxis n (rotated_place n amount i)
rotated_on_axis n amount i some =
    let z = (pos i +ℤ amount) -ℤ pos 1 in
    rw (residue_euclid n z some) (rest z)
  where
    rest : (z : ℤ) → OnAxis n (suc (unsigned_abs (int_rem_euclid z (pos n))))
    rest (pos a) = record { low = omega arith; high = omega (arith, mod_below a n some) }
    rest (negsuc a) = record { low = omega arith; high = omega arith }

pub rotated_inside : (shape index : List ℕ) (k : ℕ) (amount : ℤ) → is_index_of shape index ≡ true
    → is_index_of shape (set index k (rotated_place (places_along shape k) amount (get_or index k 1))) ≡ true
rotated_inside shape index k amount h =
    set_inside shape index k _ h (λ below.
    let on = on_axis shape index k h below in
    let n = get_or_default_zero shape k 1 below in
    subst (λ (m : ℕ). OnAxis m (rotated_place (places_along shape k) amount (get_or index k 1))) n
    (rotated_on_axis (places_along shape k) amount (get_or index k 1) (omega (arith, on.low, on.high))))

-- an index list of the shape that the counts apply to yields one of the array
pub uncounted_inside : (a b : ArrayValue) (index : List ℕ) → is_index_of (counted_shape a b) index ≡ true → is_index_of b.shape (uncounted b index) ≡ true
uncounted_inside a b index h = by_test (is_scalar b) refl h
  where
    by_test : (scalar : Bool) → is_scalar b ≡ scalar → is_index_of (if scalar then replicate (length a.items) 1 else b.shape) index ≡ true
        → is_index_of b.shape (if scalar then [] else index) ≡ true
    by_test true e h = scalar_inside b.shape (eqb-true (length b.shape) 0 e)
    by_test false e h = h

pub kept_inside : (shape : List ℕ) (counts : List ℤ) (index : List ℕ) → length counts ≡ length shape → is_index_of (dropped_shape shape counts) index ≡ true
    → is_index_of shape (kept_places counts index) ≡ true
kept_inside [] [] index e h = refl
kept_inside [] (count ∷ counts) index e h = absurd (omega arith)
kept_inside (n ∷ shape) [] index e h = absurd (omega arith)
kept_inside (n ∷ shape) (count ∷ counts) [] e h = absurd (false≢true h)
kept_inside (n ∷ shape) (pos m ∷ counts) (i ∷ index) e h =
    let head = head_of (n - m) i (dropped_shape shape counts) index h in
    one_more_inside n (i + m) shape (kept_places counts index) (record { low = omega (arith, head.low); high = omega (arith, head.high, head.low) })
    (kept_inside shape counts index (omega arith) head.rest)
kept_inside (n ∷ shape) (negsuc m ∷ counts) (i ∷ index) e h =
    let head = head_of (n - suc m) i (dropped_shape shape counts) index h in
    one_more_inside n i shape (kept_places counts index) (record { low = head.low; high = omega (arith, head.high) }) (kept_inside shape counts index (omega arith) head.rest)

-- ---- dyadic transpose

-- a list has an entry that is no greater
record HasAtMost (lengths : List ℕ) (n : ℕ) : Type 0 where
  some : 0 < length lengths
  low : least_of lengths ≤ n

first_at_most : (n : ℕ) (lengths : List ℕ) → HasAtMost (n ∷ lengths) n
first_at_most n [] = record { some = omega arith; low = omega arith }
first_at_most n (m ∷ lengths) = record { some = omega arith; low = omega arith }

later_at_most : (m : ℕ) (lengths : List ℕ) (n : ℕ) → HasAtMost lengths n → HasAtMost (m ∷ lengths) n
later_at_most m [] n h = absurd (omega (arith, h.some))
later_at_most m (k ∷ lengths) n h = record { some = omega arith; low = omega (arith, h.low) }

-- the least length at the target of axis k is at most the length of axis k
least_at : (axes shape : List ℕ) (k j : ℕ) → k < length axes → k < length shape → get_or axes k 0 ≡ j → HasAtMost (lengths_at axes shape j) (get_or shape k 0)
least_at [] shape k j a s e = absurd (omega arith)
least_at (x ∷ axes) [] k j a s e = absurd (omega arith)
least_at (x ∷ axes) (n ∷ shape) zero j a s e = rw (eq-eqb x j e) (first_at_most n (lengths_at axes shape j))
least_at (x ∷ axes) (n ∷ shape) (suc k) j a s e = later (nat_eq x j) (least_at axes shape k j (omega arith) (omega arith) e)
  where
    others : List (ℕ × ℕ)
    others = filter (λ p. nat_eq p.0 j) (zip axes shape)

    later : (w : Bool) → HasAtMost (map (λ p. p.1) others) (get_or shape k 0) → HasAtMost (map (λ p. p.1) (if w then (x, n) ∷ others else others)) (get_or shape k 0)
    later true rest = later_at_most n (map (λ p. p.1) others) (get_or shape k 0) rest
    later false rest = rest

at_most_greatest : (axes : List ℕ) (k : ℕ) → k < length axes → get_or axes k 0 ≤ greatest_of axes
at_most_greatest [] k h = absurd (omega arith)
at_most_greatest (x ∷ axes) zero h = omega arith
at_most_greatest (x ∷ axes) (suc k) h = let rest = at_most_greatest axes k (omega arith) in omega arith

entry_positive : (zs : List ℤ) (k : ℕ) → all_positive zs ≡ true → k < length zs → 1 ≤ unsigned_abs (get_or zs k (pos 0))
entry_positive [] k h below = absurd (omega arith)
entry_positive (pos n ∷ zs) zero h below = leb-true 1 n (and_parts _ _ h).0
entry_positive (negsuc n ∷ zs) zero h below = omega arith
entry_positive (pos n ∷ zs) (suc k) h below = entry_positive zs k (and_parts _ _ h).1 (omega arith)
entry_positive (negsuc n ∷ zs) (suc k) h below = absurd (false≢true h)

pub gathered_inside : (a b : ArrayValue) (index : List ℕ) → IsPlaceOf (transpose_by_form a b) index → is_index_of b.shape (gathered (axes_to a) index) ≡ true
gathered_inside a b index h =
    let axes = axes_to a in
    let list = passed (is_list a) _ _ index h in
    let named = passed (counts_as_numbers a && are_axes (numbers a)) _ _ index (passed (nat_eq (length a.items) (length b.shape)) _ _ index list.place).place in
    let all = and_parts _ _ (and_parts (counts_as_numbers a) (are_axes (numbers a)) named.test).1 in
    let long = entries_long a b index h in
    let many = magnitudes_long a in
    let numbered = numbers_long a in
    let picked = length-map axes (λ j. get_or index (j - 1) 0) in
    inside_by_axes b.shape (gathered axes index) (omega arith) (λ k below.
    let j : ℕ = get_or axes k 0 in
    let there : k < length axes = omega arith in
    let low : 1 ≤ j = omega (arith, magnitude_at a k (omega arith), entry_positive (numbers a) k all.0 (omega arith)) in
    let high : j ≤ greatest_of axes = at_most_greatest axes k there in
    let shape_long = length-map-range_with_len (λ j. least_of (lengths_at axes b.shape j)) 1 (greatest_of axes) in
    let on = on_axis (transposed_shape axes b.shape) index (j - 1) (place_inside (transposed_shape axes b.shape) b.item_type index named.place) (omega arith) in
    let least_here = get_or-map-range_with_len (λ j. least_of (lengths_at axes b.shape j)) 1 (greatest_of axes) (j - 1) j 0 (omega arith) (omega arith) in
    let at_most = least_at axes b.shape k j there below refl in
    let read = get_or-map (λ j. get_or index (j - 1) 0) axes k 0 0 there in
    record { low = omega (arith, on.low); high = omega (arith, on.high, at_most.low) })
