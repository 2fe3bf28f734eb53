use Rattle.{std.proofs.Common.{◌≡◌, ◌∙◌, sym, ap, subst, arith, [], ◌∷◌, Ok, Some}, arrays_core.specs.Arrays.{ArrayValue}}
use Rattle.{index_region.{specs.Checks.{form_of}, specs.Boxes.{box_size}}, reduce_fns.specs.Reduce.{reduce_form}}
use Rattle.change_core.{specs.declared.reach.Reach.TheVariants.{Inside}, specs.Reaches.{reach_of}, specs.Meters.{ticked}}
use Rattle.change_rules.specs.Nodes.{reached_cost, size_in}
use Rattle.sum_rules.{specs.Totals.{total_rule}, proofs.ChangedTotals.{few_lines, reached_box, reached_size, some_reached}, proofs.totals.change_by_trees.Given.{Over}, proofs.totals.change_by_trees.Goals.{In-Inside, In-Ok}}
use Rattle.sum_rules.proofs.totals.change_by_trees.Goals as goal

-- the form of the totals
form_is : (g : Over) (c : In-Ok g) → reduce_form c.args.fold.along c.args.array.now ≡ Ok (form_of c.in-Ok.form.0.items c.in-Ok.form.1)
form_is g c = subst (λ (a : ArrayValue). reduce_form c.args.fold.along a ≡ Ok (form_of c.in-Ok.form.0.items c.in-Ok.form.1)) c.again.ensures c.in-Ok.ensures.0

-- they cost as many as the box of the patch has places
cost_is : (g : Over) (c : In-Ok g) → reached_cost (total_rule c.args.fold) (c.args.array.now ∷ []) (Some c.args.patch.now.region ∷ []) ≡ box_size c.args.patch.now.region
cost_is g c = reached_size c.args.fold _ _ _ c.requires.lines c.requires.one _ _ (form_is g c)

-- the box that is reached
reach_is : (g : Over) (c : In-Inside g) → Inside c.in-Inside.region ≡ reach_of (total_rule c.args.fold) (c.args.array.now ∷ []) (Some c.args.patch.now.region ∷ [])
reach_is g c = c.in-Inside.ensures ∙ (λ i. reach_of (total_rule c.args.fold) (c.again.ensures i ∷ []) (Some (c.region.ensures i) ∷ []))

pub size-cost-requires : goal.size-cost-requires
size-cost-requires g c =
    let here = goal.at.size-cost-requires g c in
    omega (arith, few_lines c.args.fold _ _ _ c.requires.lines c.requires.one _ _ (form_is g here.In-Ok) _ (reach_is g here.In-Inside))

pub overflow_cast-cost : goal.overflow_cast-cost
overflow_cast-cost g c =
    let here = goal.at.overflow_cast-cost g c in
    omega (arith, c.size-cost.ensures, few_lines c.args.fold _ _ _ c.requires.lines c.requires.one _ _ (form_is g here.In-Ok) _ (reach_is g here.In-Inside))

pub patch_of-requires-clause-region : goal.patch_of-requires-clause-region
patch_of-requires-clause-region g c =
    let here = goal.at.patch_of-requires-clause-region g c in
    reached_box c.args.fold _ _ _ c.requires.lines c.requires.one _ _ (form_is g here.In-Ok) _ (reach_is g here.In-Inside)

pub returns-in_err-patch_of-in-Inside-clause-ticks : goal.returns-in_err-patch_of-in-Inside-clause-ticks
returns-in_err-patch_of-in-Inside-clause-ticks g c = omega (arith, cost_is g (goal.at.returns-in_err-patch_of-in-Inside-clause-ticks g c).In-Ok, c.patch_of.ensures.ticks)

pub returns-in-Inside-clause-ticks : goal.returns-in-Inside-clause-ticks
returns-in-Inside-clause-ticks g c = omega (arith, cost_is g (goal.at.returns-in-Inside-clause-ticks g c).In-Ok, c.patch_of.ensures.ticks)

pub returns-in-Inside-clause-exact : goal.returns-in-Inside-clause-exact
returns-in-Inside-clause-exact g c = λ sound.
    let here = goal.at.returns-in-Inside-clause-exact g c in
    let size : reached_cost (total_rule c.args.fold) (c.args.array.now ∷ []) (Some c.args.patch.now.region ∷ []) ≡ box_size c.in-Inside.region =
    λ i. size_in (form_is g here.In-Ok i) (sym (reach_is g here.In-Inside) i) in
    c.in_ok-patch_of-in-Inside.ensures.exact sound ∙ ap (ticked c.args.meter.now.ticks) (sym (cost_is g here.In-Ok) ∙ (size ∙ sym c.size-cost.ensures))

pub returns-in-Unmoved-clause-least : goal.returns-in-Unmoved-clause-least
returns-in-Unmoved-clause-least g c =
    let reach = c.in-Unmoved.ensures ∙ (λ i. reach_of (total_rule c.args.fold) (c.again.ensures i ∷ []) (Some (c.region.ensures i) ∷ [])) in
    absurd (some_reached c.args.fold _ _ _ c.requires.lines c.requires.one _ _ (form_is g (goal.at.returns-in-Unmoved-clause-least g c).In-Ok) reach)
