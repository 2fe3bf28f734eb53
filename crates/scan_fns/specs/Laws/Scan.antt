-- The law of scan.
use Rattle.std.{proofs.Common.{◌≡◌, ℕ, ◌<◌, ◌≤◌, zero, suc, true, nat_eq, List, [], ◌∷◌, length, get_or, map, take, insert, remove, set, refl, sym, ap, ◌∙◌, arith, inl, inr}, specs.List.{range_with_len}, proofs.lemmas.Bool.{and_from, and_parts, cases_Bool, eqb-true, eqb-false, false≢true, le-leb, leb-true}}
use Rattle.std.{proofs.lemmas.List.{get_or_default}, proofs.lemmas.List.FromFn.{take-map-range_with_len}}
use Rattle.arrays_core.{specs.declared.item.Item.{Item}, specs.Arrays.{ArrayValue, item_of, item_if_there}, specs.Shapes.{is_index_of}, proofs.Shapes.{as_long}}
use Rattle.function_names.{specs.declared.scalar.Scalar2.{Scalar2}, specs.declared.along.Along.{Along}, specs.Axes.{axis_at}}
use Rattle.index_region.{specs.Axes.{places_along}, proofs.RowIndices.{axis_below}}
use Rattle.change_core.{specs.Tightness.{IsTight, Covered}, specs.Sourced.{other}, proofs.Growing.{tight_growing}, proofs.Sourced.{one_tight}, proofs.UsedWays.{Follows, along-covered, each_range}, proofs.ReadAlike.{item_same}}
use Rattle.scan_fns.{specs.Scan.{scan_form, scan_item, run_use, scan_rule, scan_use}, specs.Laws.ScannedPlaces.{at_axis, scan_facts}}
use Rattle.item_fns.specs.RightFold.{fold_right}
use Rattle.reduce_fns.{specs.Lines.{line}, specs.Laws.ReadLines.{items_same, no_axes, scalar_line}}

-- removing an index and inserting another sets it
pub put_again : (axis j : ℕ) (index : List ℕ) → axis < length index → insert (remove index axis) axis j ≡ set index axis j
put_again axis j [] l = absurd (omega arith)
put_again zero j (i ∷ index) l = refl
put_again (suc axis) j (i ∷ index) l = ap (λ (rest : List ℕ). i ∷ rest) (put_again axis j index (omega arith))

-- the index list of an earlier place on the same line is valid
earlier_inside : (axis j : ℕ) (shape index : List ℕ) → axis < length shape → is_index_of shape index ≡ true → 1 ≤ j → j ≤ get_or index axis 1 → is_index_of shape (set index axis j) ≡ true
earlier_inside axis j [] index there place low high = absurd (omega arith)
earlier_inside axis j (n ∷ shape) [] there place low high = absurd (false≢true place)
earlier_inside zero j (n ∷ shape) (i ∷ index) there place low high =
    let parts = and_parts _ _ place in
    let below : i ≤ n = leb-true i n (and_parts _ _ parts.0).1 in
    let inside : j ≤ n = omega arith in
    and_from _ _ (and_from _ _ (le-leb 1 j low) (le-leb j n inside)) parts.1
earlier_inside (suc axis) j (n ∷ shape) (i ∷ index) there place low high =
    let parts = and_parts _ _ place in
    and_from _ _ parts.0 (earlier_inside axis j shape index (omega arith) parts.1 low high)

-- the items of a line up to a place
line_up_to : (a : ArrayValue) (axis : ℕ) (index : List ℕ) (n : ℕ) → axis < length index → n ≤ places_along a.shape axis
    → take n (line a axis (remove index axis)) ≡ map (λ j. item_of a (set index axis j)) (range_with_len 1 n)
line_up_to a axis index n there few =
    take-map-range_with_len (λ j. item_of a (insert (remove index axis) axis j)) 1 (places_along a.shape axis) n few
    ∙ (λ i. map (λ j. item_of a (put_again axis j index there i)) (range_with_len 1 n))

-- the line of a scalar is its one item
scalar_run : (d : ArrayValue) (axis : ℕ) (index : List ℕ) → d.shape ≡ [] → index ≡ [] → take (get_or index axis 1) (line d axis (remove index axis)) ≡ item_of d [] ∷ []
scalar_run d axis index none at = rw at (ap (take 1) (scalar_line d d.shape axis (remove [] axis) refl none (rw none (nothing axis))))
  where
    nothing : (axis : ℕ) → is_index_of (remove [] axis) (remove [] axis) ≡ true
    nothing zero = refl
    nothing (suc k) = refl

-- lines up to a place whose items read the same are the same
run_same : (d : ArrayValue) (xs : List Item) (axis : ℕ) (index : List ℕ) → (0 < length d.shape → axis < length d.shape) → is_index_of d.shape index ≡ true
    → map (item_if_there (other d xs)) ((run_use axis d).reads index) ≡ map (item_if_there d) ((run_use axis d).reads index)
    → take (get_or index axis 1) (line (other d xs) axis (remove index axis)) ≡ take (get_or index axis 1) (line d axis (remove index axis))
run_same d xs axis index there place read = elim (cases_Bool (nat_eq (length d.shape) 0)) [
  | inl t ↦
      let none : d.shape ≡ [] = no_axes d.shape (eqb-true _ _ t) in
      let long = as_long d.shape index place in
      let at : index ≡ [] = no_axes index (omega (arith, eqb-true _ _ t)) in
      let one : item_if_there (other d xs) [] ≡ item_if_there d [] = let k = rw at at read in cc in
      let whole : is_index_of d.shape [] ≡ true = rw none refl in
      let same = item_same (other d xs) d [] whole whole one in
      scalar_run (other d xs) axis index none at ∙ (λ i. same i ∷ []) ∙ sym (scalar_run d axis index none at)
  | inr o ↦
      let some : 0 < length d.shape = omega (arith, eqb-false _ _ o) in
      let axis_there : axis < length d.shape = there some in
      let long = as_long d.shape index place in
      let in_index : axis < length index = omega arith in
      let i = get_or index axis 1 in
      let on_axis = at_axis d.shape index axis axis_there place in
      let high : i ≤ places_along d.shape axis = omega (arith, on_axis.high, get_or_default d.shape axis 1 0 axis_there) in
      line_up_to (other d xs) axis index i in_index high
      ∙ items_same (other d xs) d (λ j. set index axis j) 1 i (λ j l u. let at = earlier_inside axis j d.shape index axis_there place l (omega arith) in (at, at)) read
      ∙ sym (line_up_to d axis index i in_index high)
]

run_covered : (b : ArrayValue) (shape : List ℕ) (axis : ℕ) → shape ≡ b.shape → Covered b.shape shape (run_use axis b)
run_covered b shape axis shaped = along-covered b.shape shape axis _ _ (λ index place there.
    let in_b = rw shaped at place in
    let long = as_long b.shape index in_b in
    let axis_there : axis < length b.shape = omega arith in
    let on_axis = at_axis b.shape index axis axis_there in_b in
    let along_it = get_or_default b.shape axis 1 0 axis_there in
    let own = get_or_default index axis 1 0 there in
    each_range (Follows (λ s. (s.0, places_along b.shape axis)) (get_or index axis 0)) 1 (get_or index axis 1) (λ j low below s first l u. (omega arith, omega (arith, on_axis.high))))

pub scan_tight : (f : Scalar2) (along : Along) → IsTight (scan_rule f along)
scan_tight f along = tight_growing _ _ (one_tight (scan_form along) (scan_item f along) (scan_use along) (record {
  blind = λ d xs n. rw n refl;
  settled = λ d xs g index n e place read.
      let facts = scan_facts along d g.shape g.item_type e in
      ap (fold_right f) (run_same d xs (axis_at (length d.shape) along) index (λ some. axis_below (length d.shape) along facts.on_axis some) (rw (facts.shaped) at place) read);
  covered = λ b g e. run_covered b g.shape (axis_at (length b.shape) along) (scan_facts along b g.shape g.item_type e).shaped;
}))
