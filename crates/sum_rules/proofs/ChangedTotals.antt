-- The totals of lines with one new number each.
use Rattle.std.{proofs.Common.{◌≡◌, ℕ, ◌-◌, ◌*◌, ◌≤◌, Bool, true, false, ◌&&◌, not, is_ok, List, [], ◌∷◌, length, map, remove, Option, Some, None, Result, Ok, Err, IfOk, OnOk, refl, ap, sym, subst, ◌∙◌, arith}, specs.Prelude.{◌==◌}, specs.List.{range_with_len}, specs.declared.alloc.AllocError.{AllocError}}
use Rattle.std.proofs.lemmas.Bool.{cond-false, false≢true}
use Rattle.arrays_core.{specs.Arrays.{ArrayValue}, specs.Items.{all_or_first_error}, specs.declared.item.Item.{Item}, specs.declared.item.Kind.{Kind}, specs.declared.item.ItemType.{ItemType}, specs.Outcomes.{Outcome}}
use Rattle.index_region.{specs.Boxes.{Interval, box_size, walk_at, met, unless_empty, join_boxes}, specs.Checks.{Form, form_of}, specs.Patches.{PatchValue, patched}, specs.Tails.{TailValue}, specs.declared.delta.Delta.{Delta}, specs.declared.delta.Delta.TheVariants.{Same, Patch, Grown, Whole}}
use Rattle.reduce_fns.{specs.declared.reduce.Reduce.{Reduce}, specs.Reduce.{reduce_form, reduce_item}, specs.Laws.ReducedShapes.{reduce_facts}, specs.Growth.{is_along_a_later_axis}}
use Rattle.{function_names.{specs.Axes.{axis_at, is_axis}, specs.declared.along.Along.{Along}}, fold_trees.specs.ArrayLines.{TreesValue}}
use Rattle.change_core.{specs.declared.reach.Reach.TheVariants.{Inside, Unmoved}, specs.Parts.{items_in}, specs.Reaches.{as_reach, reach_by, reach_of}, proofs.Filling.{few_places}, specs.RuleModels.{form_size}, specs.Meters.{ticked}, proofs.Regions.{fit_some, met_fit}}
use Rattle.change_rules.{specs.Nodes.{Argument, all_patched_at_most, all_same, is_patched_at_most, is_same, is_error, moved_by, node_cost, node_delta, node_grows, reached_cost, reached_delta, size_in}, specs.Evaluation.{evaluation}, proofs.Nodes.{delta_reached}}
use Rattle.sum_rules.{specs.LineSums.{array_of_shape, length_along}, specs.Totals.{AreFolds, HasAllJoins, StoodFor, is_by_trees, is_narrow, is_one_a_line, box_of_lines, total_rule}, proofs.ChangedLines.{as_many_lines, fits_axes, line_there, now_is}}

-- the axis stays the same under a patch
axis_before : (along : Along) (t : TreesValue) (p : PatchValue) (now : ArrayValue) (stood : StoodFor along t p now) → axis_at (length now.shape) along ≡ axis_at (length stood.before.shape) along
axis_before along t p now stood = ap (λ (a : ArrayValue). axis_at (length a.shape) along) stood.is

-- the items of the box, in the patched array
pub items_now : (fold : Reduce) (t : TreesValue) (p : PatchValue) (now : ArrayValue) (shape : List ℕ) (region : List Interval) → StoodFor fold.along t p now → shape ≡ now.shape
    → region ≡ box_of_lines (axis_at (length now.shape) fold.along) p.region
    → items_in (reduce_item fold.function fold.along (patched (array_of_shape shape t.numbers) p)) (box_of_lines (axis_at (length shape) fold.along) p.region) ≡ items_in (reduce_item fold.function fold.along now) region
items_now fold t p now shape region stood shaped is =
    let same : patched (array_of_shape shape t.numbers) p ≡ now = ap (λ (axes : List ℕ). patched (array_of_shape axes t.numbers) p) shaped ∙ now_is fold.along t p now stood in
    λ i. items_in (reduce_item fold.function fold.along (same i)) ((ap (λ (axes : List ℕ). box_of_lines (axis_at (length axes) fold.along) p.region) shaped ∙ sym is) i)

module _ (fold : Reduce) (t : TreesValue) (p : PatchValue) (now : ArrayValue) (stood : StoodFor fold.along t p now) (one : is_one_a_line (axis_at (length now.shape) fold.along) p.region ≡ true) where
  abbrev axis : ℕ
  axis = axis_at (length stood.before.shape) fold.along

  axis_is : axis_at (length now.shape) fold.along ≡ axis
  axis_is = axis_before fold.along t p now stood

  one_before : is_one_a_line axis p.region ≡ true
  one_before = subst (λ k. is_one_a_line k p.region ≡ true) axis_is one

  -- the box has one line for each of its places
  pub as_many_lines_now : box_size p.region ≡ box_size (box_of_lines (axis_at (length now.shape) fold.along) p.region)
  as_many_lines_now = as_many_lines axis t stood.before p stood.lines stood.fit one_before ∙ ap (λ k. box_size (box_of_lines k p.region)) (sym axis_is)

  -- a box of one line has one place
  pub one_place : (region : List Interval) → region ≡ box_of_lines (axis_at (length now.shape) fold.along) p.region → box_size region ≡ 1 → box_size p.region ≡ 1
  one_place region is single = as_many_lines_now ∙ sym (ap box_size is) ∙ single

  -- the total of one line is all that its box holds
  pub one_total : (shape : List ℕ) (region : List Interval) → shape ≡ now.shape → region ≡ box_of_lines (axis_at (length now.shape) fold.along) p.region → box_size region ≡ 1
      → (index : List ℕ) → index ≡ walk_at p.region 0
      → (total : Result Item Kind) → total ≡ reduce_item fold.function fold.along (patched (array_of_shape shape t.numbers) p) (remove index (axis_at (length shape) fold.along))
      → items_in (reduce_item fold.function fold.along now) region ≡ all_or_first_error (total ∷ [])
  one_total shape region shaped is single index first total total_is =
      let same : patched (array_of_shape shape t.numbers) p ≡ now = ap (λ (axes : List ℕ). patched (array_of_shape axes t.numbers) p) shaped ∙ now_is fold.along t p now stood in
      let there : remove index (axis_at (length shape) fold.along) ≡ walk_at region 0 =
      (λ i. remove (first i) ((ap (λ (axes : List ℕ). axis_at (length axes) fold.along) shaped ∙ axis_is) i))
      ∙ line_there axis t stood.before p stood.lines stood.fit one_before 0 (omega (arith, single, ap box_size is, ap (λ k. box_size (box_of_lines k p.region)) axis_is))
      ∙ ap (λ k. walk_at (box_of_lines k p.region) 0) (sym axis_is)
      ∙ ap (λ (r : List Interval). walk_at r 0) (sym is) in
      ap (λ k. all_or_first_error (map (λ before. (reduce_item fold.function fold.along now) (walk_at region before)) (range_with_len 0 k))) single
      ∙ ap (λ (r : Result Item Kind). all_or_first_error (r ∷ [])) (sym (total_is ∙ (λ i. reduce_item fold.function fold.along (same i) (there i))))

  -- the box of the result that may change
  module _ (shape : List ℕ) (type : ItemType) (form : reduce_form fold.along now ≡ Ok (form_of shape type)) where
    met_is : unless_empty (met shape (remove p.region (axis_at (length now.shape) fold.along))) ≡ Some (box_of_lines (axis_at (length now.shape) fold.along) p.region)
    met_is =
        let fit = fits_axes axis t stood.before p stood.lines stood.fit one_before in
        let now_shape : now.shape ≡ stood.before.shape = ap (λ (a : ArrayValue). a.shape) stood.is in
        (λ i. unless_empty (met (((reduce_facts fold.along now shape type form).shaped ∙ (λ i. remove (now_shape i) (axis_is i))) i) (remove p.region (axis_is i))))
        ∙ ap unless_empty (met_fit _ (box_of_lines axis p.region) fit.rest)
        ∙ cond-false _ _ _ (fit_some (box_of_lines axis p.region) _ fit.rest)
        ∙ ap (λ k. Some (box_of_lines k p.region)) (sym axis_is)

    pub reach_is : reach_of (total_rule fold) (now ∷ []) (Some p.region ∷ []) ≡ Inside (box_of_lines (axis_at (length now.shape) fold.along) p.region)
    reach_is =
        ap (λ (x : Result Form Kind). reach_by x (total_rule fold).uses (now ∷ []) (Some p.region ∷ [])) form
        ∙ ap (λ (m : Option (List Interval)). as_reach (join_boxes m None)) met_is

    pub reached_box : (region : List Interval) → Inside region ≡ reach_of (total_rule fold) (now ∷ []) (Some p.region ∷ []) → region ≡ box_of_lines (axis_at (length now.shape) fold.along) p.region
    reached_box region is = let same = is ∙ reach_is in cc

    pub some_reached : Unmoved ≡ reach_of (total_rule fold) (now ∷ []) (Some p.region ∷ []) → ⊥
    some_reached is = let same = is ∙ reach_is in cc

    pub reached_size : reached_cost (total_rule fold) (now ∷ []) (Some p.region ∷ []) ≡ box_size p.region
    reached_size = (λ i. size_in (form i) (reach_is i)) ∙ sym as_many_lines_now

    pub few_lines : (region : List Interval) → Inside region ≡ reach_of (total_rule fold) (now ∷ []) (Some p.region ∷ []) → box_size region ≤ 1048576
    few_lines region is =
        omega (arith, few_places p.region stood.before.shape stood.fit.inside stood.lines.sound.within, ap box_size (reached_box region is), as_many_lines_now)

-- the change of totals that were an array, after a patch of the argument
pub delta_is : (fold : Reduce) (arg : Argument) (p : PatchValue) (old : Outcome) → arg.1.now ≡ Patch p → is_ok old ≡ true
    → reached_delta (total_rule fold) (arg.0 ∷ []) (Some p.region ∷ []) ≡ node_delta (total_rule fold) (arg ∷ []) old
delta_is fold arg p old is ok =
    let some : all_same (arg ∷ []) ≡ false = ap (λ (d : Delta). is_same d && true) is in
    let patched : all_patched_at_most (arg ∷ []) ≡ true = ap (λ (d : Delta). is_patched_at_most d && true) is in
    ap (λ (d : Delta). reached_delta (total_rule fold) (arg.0 ∷ []) (moved_by d ∷ [])) (sym is) ∙ delta_reached (total_rule fold) (arg ∷ []) old some ok patched

-- the joins of totals that are folded, if the trees do not apply
pub folded : (fold : Reduce) (arg : Argument) (held : Outcome) (before after : ℕ) (change : Delta) (r : Result ℕ AllocError) → is_by_trees fold.along arg ≡ false
    → IfOk r (λ n. n ≡ node_cost (total_rule fold) (arg ∷ []) held) → IfOk r (λ n. is_error change ≡ false → AreFolds n (length_along fold.along arg.0.shape) before after)
    → OnOk r (is_error change ≡ false → HasAllJoins fold arg held before after)
folded fold arg held before after change (Err e) none cost counted = tt
folded fold arg held before after change (Ok n) none cost counted = λ sound. record {
  trees = λ by. absurd (false≢true (sym none ∙ by));
  folds = λ _. counted sound ∙ ap (λ k. ticked before (k * (length_along fold.along arg.0.shape - 1))) cost;
}

-- the trees do not apply if the argument was neither patched nor grew
pub not_patched : (axis : ℕ) (d : Delta) → ((p : PatchValue) → d ≡ Patch p → ⊥) → ((t : TailValue) → d ≡ Grown t → ⊥) → is_narrow axis d ≡ false
not_patched _ (Patch p) none still = absurd (none p refl)
not_patched _ Same none still = refl
not_patched _ (Grown t) none still = absurd (still t refl)
not_patched _ (Whole r) none still = refl

pub not_both : (a b : Bool) → b ≡ false → (a && b) ≡ false
not_both true b none = none
not_both false b none = refl

-- ---- an argument that grew along the axis of its lines

-- the totals then do not grow by new lines
stay_as_many : (along : Along) (a : ArrayValue) → axis_at (length a.shape) along ≡ 0 → is_along_a_later_axis along a ≡ false
stay_as_many along a first = not_both (is_axis (length a.shape) along) (not (axis_at (length a.shape) along == 0)) (ap (λ k. not (k == 0)) first)

abbrev grown_to : Argument → TailValue → Argument
grown_to arg tail = (arg.0, record { ref_ptr = arg.1.ref_ptr; now = Grown tail })

-- so they are computed as a whole
pub delta_grown : (fold : Reduce) (arg : Argument) (tail : TailValue) (old : Outcome) → arg.1.now ≡ Grown tail → axis_at (length arg.0.shape) fold.along ≡ 0
    → node_delta (total_rule fold) (arg ∷ []) old ≡ Whole (evaluation (total_rule fold) (arg.0 ∷ []))
delta_grown fold arg tail (Err e) is first = ap (λ (d : Delta). node_delta (total_rule fold) ((arg.0, record { ref_ptr = arg.1.ref_ptr; now = d }) ∷ []) (Err e)) is
delta_grown fold arg tail (Ok v) is first =
    ap (λ (d : Delta). node_delta (total_rule fold) ((arg.0, record { ref_ptr = arg.1.ref_ptr; now = d }) ∷ []) (Ok v)) is
    ∙ cond-false (node_grows (total_rule fold) (grown_to arg tail ∷ [])) _ _ (stay_as_many fold.along arg.0 first)

pub cost_grown : (fold : Reduce) (arg : Argument) (tail : TailValue) (old : Outcome) → arg.1.now ≡ Grown tail → axis_at (length arg.0.shape) fold.along ≡ 0
    → node_cost (total_rule fold) (arg ∷ []) old ≡ form_size ((total_rule fold).form (arg.0 ∷ []))
cost_grown fold arg tail (Err e) is first = ap (λ (d : Delta). node_cost (total_rule fold) ((arg.0, record { ref_ptr = arg.1.ref_ptr; now = d }) ∷ []) (Err e)) is
cost_grown fold arg tail (Ok v) is first =
    ap (λ (d : Delta). node_cost (total_rule fold) ((arg.0, record { ref_ptr = arg.1.ref_ptr; now = d }) ∷ []) (Ok v)) is
    ∙ cond-false (node_grows (total_rule fold) (grown_to arg tail ∷ [])) _ _ (stay_as_many fold.along arg.0 first)

pub cost_anew : (fold : Reduce) (arg : Argument) (p : PatchValue) (old : Outcome) → arg.1.now ≡ Patch p → is_ok old ≡ false
    → node_cost (total_rule fold) (arg ∷ []) old ≡ form_size ((total_rule fold).form (arg.0 ∷ []))
cost_anew fold arg p (Ok v) is failed = absurd (false≢true (sym failed))
cost_anew fold arg p (Err e) is failed = ap (λ (d : Delta). node_cost (total_rule fold) ((arg.0, record { ref_ptr = arg.1.ref_ptr; now = d }) ∷ []) (Err e)) is
