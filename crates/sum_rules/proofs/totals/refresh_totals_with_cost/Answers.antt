use Rattle.std.{proofs.Common.{◌≡◌, ℕ, List, [], ◌∷◌, length, false, ◌∙◌, refl, ap, sym, subst}, proofs.lemmas.Bool.{ne_eqb}}
use Rattle.{arrays_core.{proofs.Growing.{rank_longer}, specs.Arrays.{ArrayValue}}, change_core.proofs.Covers.{covers, reaches_inside}}
use Rattle.change_rules.{specs.Currency.{BringsUpToDate, IsRight}, specs.Nodes.{views, moved}, proofs.NodeRight.{brings_up_to_date}, proofs.Right.{answered, node_is_right}}
use Rattle.reduce_fns.{specs.Laws.LinesGrowth.{reduce_growing}, specs.Laws.Reduce.{reduce_tight}}
use Rattle.sum_rules.{specs.Totals.{total_rule, is_by_trees, is_narrow, is_one_a_line}, proofs.ChangedTotals.{delta_is, folded, not_patched}, proofs.totals.refresh_totals_with_cost.Goals.{in-Patch+else-is_one_a_line, in_default, in-Grown+else-axis_at-eq0, in_default-delta}}
use Rattle.function_names.specs.Axes.{is_axis, axis_at}
use Rattle.sum_rules.proofs.totals.refresh_totals_with_cost.Goals as goal

pub returns-then-is_ok-clause-right : goal.returns-then-is_ok-clause-right
returns-then-is_ok-clause-right g c =
    let args = c.args.arg ∷ [] in
    let old = c.args.old.now in
    let same = delta_is c.args.fold c.args.arg c.in-Patch.patch old c.in-Patch.is (sym c.is_ok.ensures.value ∙ c.if-is_ok.true) in
    answered (IsRight (total_rule c.args.fold) (views args)) c.change_by_trees.result _ _ c.change_by_trees.ensures.delta (subst (IsRight (total_rule c.args.fold) (views args)) (sym same) (node_is_right (total_rule c.args.fold) args old))

pub returns-then-is_ok-clause-whole : goal.returns-then-is_ok-clause-whole
returns-then-is_ok-clause-whole g c =
    let args = c.args.arg ∷ [] in
    let old = c.args.old.now in
    let same = delta_is c.args.fold c.args.arg c.in-Patch.patch old c.in-Patch.is (sym c.is_ok.ensures.value ∙ c.if-is_ok.true) in
    answered (BringsUpToDate (total_rule c.args.fold) args old) c.change_by_trees.result _ _ c.change_by_trees.ensures.delta
    (subst (BringsUpToDate (total_rule c.args.fold) args old) (sym same)
    (brings_up_to_date (total_rule c.args.fold) (covers (total_rule c.args.fold) (reduce_tight c.args.fold.function c.args.fold.along)) (reduce_growing c.args.fold.function c.args.fold.along) args old refl (reaches_inside (total_rule c.args.fold) (views args) (moved args)) c.requires.fit c.requires.axes (c.shape.ensures.sound, tt)))

pub change_after_error-requires-clause-function : goal.change_after_error-requires-clause-function
change_after_error-requires-clause-function g c = (c.requires.sums.changed c.in-Patch.patch c.in-Patch.is).0

pub change_by_trees-requires-clause-function : goal.change_by_trees-requires-clause-function
change_by_trees-requires-clause-function g c = (c.requires.sums.changed c.in-Patch.patch c.in-Patch.is).0

pub axis_at-requires : goal.axis_at-requires
axis_at-requires g c =
    let stood = (c.requires.sums.changed c.in-Patch.patch c.in-Patch.is).1 in
    ap (λ (s : List ℕ). is_axis (length s) c.args.fold.along) (c.as_slice.ensures ∙ c.shape.ensures.is ∙ ap (λ (a : ArrayValue). a.shape) stood.is) ∙ stood.on_axis

pub axis_at-requires-in-Grown : goal.axis_at-requires-in-Grown
axis_at-requires-in-Grown g c =
    let stood = (c.requires.sums.grew c.in-Grown.tail c.in-Grown.is).1 in
    ap (λ (s : List ℕ). is_axis (length s) c.args.fold.along) (c.as_slice.ensures ∙ c.shape.ensures.is ∙ ap (λ (a : ArrayValue). a.shape) stood.is)
    ∙ ap (λ n. is_axis n c.args.fold.along) (rank_longer stood.before.shape) ∙ stood.on_axis

pub change_by_growth-requires-clause-function : goal.change_by_growth-requires-clause-function
change_by_growth-requires-clause-function g c = (c.requires.sums.grew c.in-Grown.tail c.in-Grown.is).0

pub returns-clause-least : goal.returns-clause-least
returns-clause-least g c =
    let arg = c.args.arg in
    let held = c.args.old.now in
    let axis = axis_at (length arg.0.shape) c.args.fold.along in
    let axes = ap (λ (s : List ℕ). axis_at (length s) c.args.fold.along) (c.as_slice.ensures ∙ c.shape.ensures.is) in
    let none : is_by_trees c.args.fold.along arg ≡ false = elim c.match-delta.branch [
      | in-Patch+else-is_one_a_line w ↦
          let meant : w.axis_at.result ≡ axis = w.axis_at.ensures.is ∙ axes in
          ap (is_narrow axis) w.in-Patch.is ∙ (λ i. is_one_a_line (sym meant i) (sym w.region.ensures i)) ∙ sym w.is_one_a_line.ensures ∙ w.if-is_one_a_line.false
      | in_default w ↦ elim c.match-delta-2.branch [
        | in-Grown+else-axis_at-eq0 v ↦
            ap (is_narrow axis) v.in-Grown.is ∙ ne_eqb axis 0 (λ e. v.if-axis_at-eq0.false ((v.axis_at-in-Grown.ensures.is ∙ axes) ∙ e))
        | in_default-delta v ↦ not_patched axis arg.1.now w.in_default.not-Patch v.in_default-delta.not-Grown
      ]
    ] in
    folded c.args.fold arg held c.args.meter.now.joins c.fold_totals_with_cost.new.meter.joins c.fold_totals_with_cost.new.change c.fold_totals_with_cost.result none c.fold_totals_with_cost.ensures.cost c.fold_totals_with_cost.ensures.folds
