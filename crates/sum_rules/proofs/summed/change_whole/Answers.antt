use Rattle.{std.proofs.Common.{◌≡◌, ◌∙◌, sym, ap, subst, Ok}, arrays_core.{specs.Arrays.{ArrayValue}, specs.Outcomes.{given}}}
use Rattle.{index_region.{specs.declared.delta.Delta.TheVariants.{Whole}, specs.Checks.{form_of}}, reduce_fns.specs.Reduce.{reduce_form}}
use Rattle.sum_rules.{specs.Summed.{AreTotals}, proofs.Outcomes.{outcome_given}, proofs.summed.change_whole.Given.{Over}, proofs.summed.change_whole.Goals.{In-Ok}}
use Rattle.sum_rules.proofs.summed.change_whole.Goals as goal

-- the totals of the array
told : (g : Over) (c : In-Ok g) → AreTotals c.args.fold (g.S.LineTotals.function c.args.sums.now) (g.S.LineTotals.trees c.args.sums.now) c.args.news c.args.array.now c.in-Ok.form.0.items
told g c = c.requires _ _ (subst (λ (a : ArrayValue). reduce_form c.args.fold.along a ≡ Ok (form_of c.in-Ok.form.0.items c.in-Ok.form.1)) c.again.ensures c.in-Ok.ensures.0)

pub invariant_of-totals-clause-places : goal.invariant_of-totals-clause-places
invariant_of-totals-clause-places g c = (told g (goal.at.invariant_of-totals-clause-places g c).In-Ok).places

pub invariant_of-totals-clause-some : goal.invariant_of-totals-clause-some
invariant_of-totals-clause-some g c = (told g (goal.at.invariant_of-totals-clause-some g c).In-Ok).some

pub invariant_of-totals-clause-fit : goal.invariant_of-totals-clause-fit
invariant_of-totals-clause-fit g c = (told g (goal.at.invariant_of-totals-clause-fit g c).In-Ok).fit

pub returns-clause-delta : goal.returns-clause-delta
returns-clause-delta g c =
    ap Whole (outcome_given _ c.all.result c.in_ok-outcome.field-0 c.all.ensures c.in_ok-outcome.ensures)
    ∙ sym (ap (λ r. Whole (given r)) (told g (goal.at.returns-clause-delta g c).In-Ok).whole)
