use Rattle.std.proofs.Common.{[], ◌∷◌, sym, subst}
use Rattle.formula_core.{specs.declared.input.Input.{Input}, specs.declared.input.Input.TheVariants.{Good}, specs.Inputs.{HasFit, IsOperationChange}, specs.Rules.{right_rule, with_change}, proofs.Gathered.{arrays_fit}, proofs.Told.{told_fit, refreshed_before}}
use Rattle.formula_core.proofs.operation_change.change_of_right.Goals as goal

pub of_right-requires-clause-fit : goal.of_right-requires-clause-fit
of_right-requires-clause-fit c =
    let w = c.in-Good in
    told_fit (c.again.result ∷ []) (c.of.result ∷ []) ((w.array, w.delta) ∷ []) (sym c.again.ensures, c.of.ensures, tt)
    (arrays_fit (Good w.array w.delta ∷ []) (subst HasFit w.is c.requires, tt))

pub returns-in-Good-clause-change : goal.returns-in-Good-clause-change
returns-in-Good-clause-change c =
    let w = c.in-Good in
    let rule = right_rule c.args.function in
    let r = with_change c.of_right.new.change c.of_right.result in
    subst (λ (i : Input). IsOperationChange rule (i ∷ []) c.args.held.now c.args.meter.now.ticks c.of_right.new.meter.ticks r) (sym w.is)
    (refreshed_before rule w.array c.again.result c.of.result w.delta c.args.held.now _ _ r c.again.ensures c.of.ensures c.of_right.ensures.refreshed)
