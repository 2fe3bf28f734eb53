use Rattle.std.proofs.Common.{◌≡◌, ◌∙◌, [], ◌∷◌, length, remove, sym, ap, subst, arith, Ok, Err, Some}
use Rattle.{arrays_core.{specs.Arrays.{ArrayValue}, specs.Shapes.{size}}, function_names.specs.Axes.{axis_at}}
use Rattle.index_region.{specs.declared.delta.Delta.TheVariants.{Whole}, specs.Checks.{form_of}}
use Rattle.reduce_fns.{specs.Reduce.{reduce_form}, specs.Laws.ReducedShapes.{reduce_facts}}
use Rattle.change_core.{specs.RuleModels.{form_size}, specs.Reaches.{reach_of}}
use Rattle.sum_rules.{specs.Totals.{total_rule, box_of_lines}, proofs.ChangedTotals.{reach_is, reached_box}, proofs.KeptLines.{some_lines}, proofs.summed.change_after_error.Goals.{In-Inside, In-Ok}, proofs.summed.change_after_error.Given.{Over}}
use Rattle.sum_rules.proofs.summed.change_after_error.Goals as goal

-- the form of the totals
form_is : (g : Over) (c : In-Ok g) → reduce_form c.args.fold.along c.args.array.now ≡ Ok (form_of c.in-Ok.form.0.items c.in-Ok.form.1)
form_is g c = subst (λ (a : ArrayValue). reduce_form c.args.fold.along a ≡ Ok (form_of c.in-Ok.form.0.items c.in-Ok.form.1)) c.again.ensures c.in-Ok.ensures.0

-- the lines of the changed box
lines_now : (g : Over) (c : In-Inside g) → c.in-Inside.lines ≡ box_of_lines (axis_at (length c.args.array.now.shape) c.args.fold.along) c.args.patch.now.region
lines_now g c =
    let reach = c.in-Inside.ensures ∙ (λ i. reach_of (total_rule c.args.fold) (c.again.ensures i ∷ []) (Some (c.region.ensures i) ∷ [])) in
    reached_box c.args.fold _ _ _ c.requires.lines c.requires.one _ _ (form_is g (goal.at-In-Inside g c).In-Ok) c.in-Inside.lines reach

pub failure_elsewhere-requires-clause-changed : goal.failure_elsewhere-requires-clause-changed
failure_elsewhere-requires-clause-changed g c = lines_now g (goal.at.failure_elsewhere-requires-clause-changed g c).In-Inside

pub failure_elsewhere-requires-clause-formed : goal.failure_elsewhere-requires-clause-formed
failure_elsewhere-requires-clause-formed g c = (_, form_is g (goal.at.failure_elsewhere-requires-clause-formed g c).In-Ok)

pub change_beside-requires-clause-changed : goal.change_beside-requires-clause-changed
change_beside-requires-clause-changed g c = lines_now g (goal.at.change_beside-requires-clause-changed g c).In-Inside

pub change_beside-requires-clause-formed : goal.change_beside-requires-clause-formed
change_beside-requires-clause-formed g c = (_, _, form_is g (goal.at.change_beside-requires-clause-formed g c).In-Ok)

pub unreachable-requires : goal.unreachable-requires
unreachable-requires g c =
    c.in_default.not-Inside (box_of_lines (axis_at (length c.args.array.now.shape) c.args.fold.along) c.args.patch.now.region)
    (c.reach_in.ensures ∙ (λ i. reach_of (total_rule c.args.fold) (c.again.ensures i ∷ []) (Some (c.region.ensures i) ∷ []))
    ∙ reach_is c.args.fold _ _ _ c.requires.lines c.requires.one _ _ (form_is g (goal.at.unreachable-requires g c).In-Ok))

-- an error elsewhere is the error of the whole
pub returns-in-Some-clause-delta : goal.returns-in-Some-clause-delta
returns-in-Some-clause-delta g c = ap (λ e. Whole (Err e)) c.into-in-Some.ensures ∙ sym (ap Whole c.in-Some.ensures)

pub returns-in-Some-clause-ticks : goal.returns-in-Some-clause-ticks
returns-in-Some-clause-ticks g c =
    let along = c.args.fold.along in
    let form = form_is g (goal.at.returns-in-Some-clause-ticks g c).In-Ok in
    let shaped = (reduce_facts along c.args.array.now _ _ form).shaped ∙ ap (λ (a : ArrayValue). remove a.shape (axis_at (length a.shape) along)) c.requires.lines.is in
    omega (arith, some_lines _ _ _ c.requires.lines.lines, ap size shaped, ap form_size form, c.tick.ensures.by_one)
