-- The law of reduction.
use Rattle.std.{proofs.Common.{◌≡◌, ℕ, ◌<◌, ◌≤◌, zero, suc, true, nat_eq, List, [], ◌∷◌, length, map, insert, remove, refl, sym, ap, ◌∙◌, subst, arith, inl, inr}, proofs.lemmas.Bool.{cases_Bool, cond-true, cond-false, eqb-true, eqb-false, false≢true}, proofs.lemmas.List.{get_or_default}}
use Rattle.std.proofs.lemmas.List.Edits.{length-remove}
use Rattle.arrays_core.{specs.declared.item.Item.{Item}, specs.Arrays.{ArrayValue, item_if_there}, specs.Shapes.{is_index_of}}
use Rattle.function_names.{specs.declared.scalar.Scalar2.{Scalar2}, specs.declared.along.Along.{Along}, specs.Axes.{axis_at}}
use Rattle.index_region.{specs.Axes.{places_along}, specs.Boxes.{Interval, fits, is_within}, proofs.RowIndices.{axis_below}}
use Rattle.change_core.{specs.Tightness.{IsTight, Covered, Each}, specs.Sourced.{other}, proofs.Growing.{tight_growing}, proofs.Sourced.{one_tight}, proofs.UsedWays.{lines-covered}, proofs.ReadAlike.{item_same}}
use Rattle.reduce_fns.{specs.Reduce.{reduce_form, reduce_item, line_use, reduce_rule, reduce_use}, specs.Lines.{line}, specs.Laws.LineIndices.{inside}, specs.Laws.ReducedShapes.{reduce_facts}, specs.Laws.ReadLines.{items_same, no_axes, scalar_line}}
use Rattle.item_fns.specs.RightFold.{fold_right}

-- lines whose items read the same are the same
line_same : (d : ArrayValue) (xs : List Item) (axis : ℕ) (index : List ℕ) → (0 < length d.shape → axis < length d.shape) → is_index_of (remove d.shape axis) index ≡ true
    → map (item_if_there (other d xs)) ((line_use axis d).reads index) ≡ map (item_if_there d) ((line_use axis d).reads index) → line (other d xs) axis index ≡ line d axis index
line_same d xs axis index there place read = elim (cases_Bool (nat_eq (length d.shape) 0)) [
  | inl t ↦
      let none : d.shape ≡ [] = no_axes d.shape (eqb-true _ _ t) in
      let one : item_if_there (other d xs) [] ≡ item_if_there d [] = let k = rw t at read in cc in
      let whole : is_index_of d.shape [] ≡ true = rw none refl in
      let same = item_same (other d xs) d [] whole whole one in
      scalar_line (other d xs) d.shape axis index refl none place ∙ (λ i. same i ∷ []) ∙ sym (scalar_line d d.shape axis index refl none place)
  | inr o ↦
      let some : 0 < length d.shape = omega (arith, eqb-false _ _ o) in
      let axis_there : axis < length d.shape = there some in
      items_same (other d xs) d (λ j. insert index axis j) 1 (places_along d.shape axis) (λ j l u.
      let same = get_or_default d.shape axis 1 0 axis_there in
      let at = inside axis d.shape index j axis_there place l (omega arith) in
      (at, at)) (rw o at read)
]

scalar_box : (axis : ℕ) (region : List Interval) (index : List ℕ) → fits region [] ≡ true → is_index_of (remove [] axis) index ≡ true → is_within (remove region axis) index ≡ true
scalar_box zero [] [] fit place = refl
scalar_box (suc k) [] [] fit place = refl
scalar_box zero [] (i ∷ index) fit place = absurd (false≢true place)
scalar_box (suc k) [] (i ∷ index) fit place = absurd (false≢true place)
scalar_box axis (s ∷ region) index fit place = absurd (false≢true fit)

line_covered : (b : ArrayValue) (shape : List ℕ) (axis : ℕ) → shape ≡ remove b.shape axis → (0 < length b.shape → axis < length b.shape) → Covered b.shape shape (line_use axis b)
line_covered b shape axis shaped there region index fit place = elim (cases_Bool (nat_eq (length b.shape) 0)) [
  | inl t ↦
      let none : b.shape ≡ [] = no_axes b.shape (eqb-true _ _ t) in
      let here = rw (shaped, none) at place in
      subst (Each (λ (p : List ℕ). is_within region p ≡ true → is_within (remove region axis) index ≡ true)) (sym (cond-true _ _ _ t)) ((λ _. scalar_box axis region index (rw none at fit) here), tt)
  | inr o ↦
      let some : 0 < length b.shape = omega (arith, eqb-false _ _ o) in
      let long = length-remove b.shape axis (there some) in
      let shape_long : length shape ≡ length (remove b.shape axis) = ap (λ (s : List ℕ). length s) shaped in
      let axis_there : axis < length b.shape = there some in
      let below : axis ≤ length shape = omega arith in
      subst (Each (λ (p : List ℕ). is_within region p ≡ true → is_within (remove region axis) index ≡ true)) (sym (cond-false _ _ _ o))
      (lines-covered b.shape shape axis (places_along b.shape axis) below region index fit place)
]

pub reduce_tight : (f : Scalar2) (along : Along) → IsTight (reduce_rule f along)
reduce_tight f along = tight_growing _ _ (one_tight (reduce_form along) (reduce_item f along) (reduce_use along) (record {
  blind = λ d xs n. refl;
  settled = λ d xs g index n e place read.
      let facts = reduce_facts along d g.shape g.item_type e in
      ap (fold_right f) (line_same d xs (axis_at (length d.shape) along) index (λ some. axis_below (length d.shape) along facts.on_axis some) (rw (facts.shaped) at place) read);
  covered = λ b g e.
      let facts = reduce_facts along b g.shape g.item_type e in
      line_covered b g.shape (axis_at (length b.shape) along) facts.shaped (λ some. axis_below (length b.shape) along facts.on_axis some);
}))
