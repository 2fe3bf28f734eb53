-- The totals of lines that each changed in one place: at most as many totals are computed as places changed.
use Rattle.std.{proofs.Common.{◌≡◌, ℕ, zero, suc, ◌+◌, ◌-◌, ◌<◌, ◌≤◌, true, is_ok, List, [], ◌∷◌, length, drop, remove, min, max, Some, None, Result, Ok, Err, ap, ◌∙◌, subst, sym, refl, arith, inl, inr}, proofs.lemmas.Bool.{cases_Bool, cond-false, cond-true, eqb-true, false≢true}}
use Rattle.std.{proofs.lemmas.List.Edits.{length-remove}, proofs.Math.Nat.{mul-le-mul}}
use Rattle.arrays_core.{specs.Arrays.{ArrayValue}, specs.Shapes.{size}, specs.declared.item.Kind.{Kind}, specs.Outcomes.{Outcome}}
use Rattle.function_names.specs.Axes.{axis_at}
use Rattle.reduce_fns.{specs.declared.reduce.Reduce.{Reduce}, specs.Reduce.{reduce_form}, specs.Laws.ReducedShapes.{reduce_facts}}
use Rattle.index_region.{specs.declared.delta.Delta.TheVariants.{Patch, Grown}, specs.Boxes.{Interval, box_size, fits, is_empty, join_boxes, met, unless_empty}, specs.Checks.{Form}, specs.Patches.{PatchValue}, specs.Tails.{TailValue}, proofs.Boxes.{fits_length}}
use Rattle.change_core.{specs.RuleModels.{form_size}, specs.Reaches.{as_reach, reach_by, reach_of}}
use Rattle.change_rules.{specs.Nodes.{Argument, reached_cost, size_in}, proofs.Nodes.{cost_reached}}
use Rattle.sum_rules.{specs.Totals.{is_narrow, is_one_a_line, box_of_lines, new_items, total_rule}, proofs.ChangedTotals.{cost_grown}, proofs.OneAxis.{size_with_one}}
use Rattle.formula_core.specs.Changes.{FitsNow, operation_cost}

-- ---- a box without an axis

-- a box with one place on an axis has this axis
on_axis : (axis : ℕ) (region : List Interval) → is_one_a_line axis region ≡ true → axis < length region
on_axis zero [] one = absurd (false≢true one)
on_axis (suc axis) [] one = absurd (false≢true one)
on_axis zero (s ∷ region) one = omega arith
on_axis (suc axis) (s ∷ region) one = let there = on_axis axis region one in omega (arith, there)

-- the part of a box of as many axes inside a shape has at most as many places
met_within : (shape : List ℕ) (region : List Interval) → length region ≡ length shape → box_size (met shape region) ≤ box_size region
met_within [] [] e = omega arith
met_within [] (s ∷ region) e = absurd (omega (arith, e))
met_within (n ∷ shape) [] e = absurd (omega (arith, e))
met_within (n ∷ shape) (s ∷ region) e =
    let first : min s.1 n + 1 - max 1 s.0 ≤ s.1 + 1 - s.0 = omega arith in
    mul-le-mul first (met_within shape region (omega (arith, e)))

-- a box that may be empty is no larger
reached_size : (f : Form) (region : List Interval) → size_in (Ok f) (as_reach (join_boxes (unless_empty region) None)) ≤ box_size region
reached_size f region = elim (cases_Bool (is_empty region)) [
  | inl t ↦ subst (λ m. size_in (Ok f) (as_reach (join_boxes m None)) ≤ box_size region) (sym (cond-true (is_empty region) None (Some region) t)) (omega arith)
  | inr e ↦ subst (λ m. size_in (Ok f) (as_reach (join_boxes m None)) ≤ box_size region) (sym (cond-false (is_empty region) None (Some region) e)) (omega arith)
]

-- ---- a patch with one place a line

module _ (fold : Reduce) (a : ArrayValue) (p : PatchValue) (inside : fits p.region a.shape ≡ true) (one : is_one_a_line (axis_at (length a.shape) fold.along) p.region ≡ true) where
  abbrev axis : ℕ
  axis = axis_at (length a.shape) fold.along

  abbrev lines : List Interval
  lines = box_of_lines axis p.region

  as_many_axes : length lines ≡ length (remove a.shape axis)
  as_many_axes =
      let all = fits_length p.region a.shape inside in
      let there = on_axis axis p.region one in
      omega (arith, all, there, length-remove p.region axis there, length-remove a.shape axis (omega (arith, all, there)))

  abbrev cost : ℕ
  cost = reached_cost (total_rule fold) (a ∷ []) (Some p.region ∷ [])

  cost_by : (r : Result Form Kind) → reduce_form fold.along a ≡ r → cost ≤ box_size p.region
  cost_by (Ok f) form =
      let counted : cost ≡ size_in (Ok f) (as_reach (join_boxes (unless_empty (met f.shape lines)) None)) =
      ap (λ (x : Result Form Kind). size_in x (reach_by x (total_rule fold).uses (a ∷ []) (Some p.region ∷ []))) form in
      let shaped = (reduce_facts fold.along a f.shape f.item_type form).shaped in
      let within = met_within f.shape lines (as_many_axes ∙ ap length (sym shaped)) in
      omega (arith, counted, reached_size f (met f.shape lines), within, size_with_one axis p.region (on_axis axis p.region one) (eqb-true _ _ one))
  cost_by (Err kind) form =
      let none : cost ≡ 0 = ap (λ (x : Result Form Kind). size_in x (reach_of (total_rule fold) (a ∷ []) (Some p.region ∷ []))) form in
      omega (arith, none)

  reached_within : cost ≤ box_size p.region
  reached_within = cost_by (reduce_form fold.along a) refl

-- ---- an array that grew along the axis of its lines

module _ (fold : Reduce) (a : ArrayValue) (first : axis_at (length a.shape) fold.along ≡ 0) (some : 0 < length a.shape) where
  without_first : (shape : List ℕ) → 0 < length shape → size (remove shape 0) ≡ size (drop 1 shape)
  without_first [] h = absurd (omega (arith, h))
  without_first (n ∷ shape) h = refl

  places_by : (r : Result Form Kind) → reduce_form fold.along a ≡ r → form_size r ≤ size (drop 1 a.shape)
  places_by (Ok f) form =
      let shaped = (reduce_facts fold.along a f.shape f.item_type form).shaped in
      omega (arith, ap size shaped, ap (λ k. size (remove a.shape k)) first, without_first a.shape some)
  places_by (Err kind) form = omega arith

  -- there is a total for each item of a place of that axis
  places_without_first : form_size (reduce_form fold.along a) ≤ size (drop 1 a.shape)
  places_without_first = places_by (reduce_form fold.along a) refl

-- an array that grew along that axis, also with an error as the last result
pub grown_within : (fold : Reduce) (a : ArrayValue) (t : TailValue) (held : Outcome) → FitsNow (Grown t) (Ok a) → is_narrow (axis_at (length a.shape) fold.along) (Grown t) ≡ true
    → operation_cost (total_rule fold) (Ok (a ∷ [])) (Grown t ∷ []) held ≤ new_items (Grown t)
grown_within fold a t held fit narrow =
    let arg : Argument = (a, record { ref_ptr = (0, 0); now = Grown t }) in
    let first : axis_at (length a.shape) fold.along ≡ 0 = eqb-true _ _ narrow in
    omega (arith, cost_grown fold arg t held refl first, places_without_first fold a first fit.some_axis, fit.one_place)

pub patch_within : (fold : Reduce) (a : ArrayValue) (p : PatchValue) (held : Outcome) → FitsNow (Patch p) (Ok a) → is_narrow (axis_at (length a.shape) fold.along) (Patch p) ≡ true → is_ok held ≡ true
    → operation_cost (total_rule fold) (Ok (a ∷ [])) (Patch p ∷ []) held ≤ new_items (Patch p)
patch_within fold a p held fit narrow ok =
    let arg : Argument = (a, record { ref_ptr = (0, 0); now = Patch p }) in
    omega (arith, cost_reached (total_rule fold) (arg ∷ []) held refl ok refl, reached_within fold a p fit.inside narrow)
