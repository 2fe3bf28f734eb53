use Rattle.{std.proofs.Common.{◌≡◌, ◌∙◌, [], ◌∷◌, Some, sym, subst}, reduce_fns.specs.declared.reduce.Reduce.{Reduce}, change_core.specs.RuleModels.{RuleModel}}
use Rattle.formula_core.{specs.Inputs.{shown, delta_of, IsOperationChange}, specs.Stages.{AreTotalsJoined}, specs.Sums.{AreSumsKept}, proofs.Totalled.{total_is}, specs.Rules.{with_change}}
use Rattle.formula_core.proofs.operation_change.change_of_monad.Goals as goal

pub change_of_total-requires-clause-kept : goal.change_of_total-requires-clause-kept
change_of_total-requires-clause-kept c = c.requires.kept c.in-Some.fold (sym c.in-Some.ensures)

pub change_of_total-requires-clause-made : goal.change_of_total-requires-clause-made
change_of_total-requires-clause-made c = c.requires.made c.in-Some.fold (sym c.in-Some.ensures)

pub returns-in-Some-clause-change : goal.returns-in-Some-clause-change
returns-in-Some-clause-change c =
    subst (λ (rule : RuleModel). IsOperationChange rule (c.args.right.now ∷ []) c.args.held.now c.args.meter.now.ticks c.change_of_total.new.meter.ticks (with_change c.change_of_total.new.change c.change_of_total.result))
    (sym (total_is c.args.function c.in-Some.fold (sym c.in-Some.ensures))) c.change_of_total.ensures.change

pub returns-in-Some-clause-joins : goal.returns-in-Some-clause-joins
returns-in-Some-clause-joins c = λ fold total well.
    let right = c.args.right.now in
    let both : Some c.in-Some.fold ≡ Some fold = c.in-Some.ensures ∙ total in
    let same : c.in-Some.fold ≡ fold = cc in
    subst (λ (k : Reduce). AreTotalsJoined k right c.args.held.now c.args.meter.now.joins c.change_of_total.new.meter.joins (with_change c.change_of_total.new.change c.change_of_total.result)) same
    (c.change_of_total.ensures.joins (subst (λ (k : Reduce). AreSumsKept k (shown right) (delta_of right) c.args.kept.now) (sym same) well))
