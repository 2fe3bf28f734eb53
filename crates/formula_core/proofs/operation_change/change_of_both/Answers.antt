use Rattle.std.proofs.Common.{[], ◌∷◌, sym, subst}
use Rattle.formula_core.{specs.declared.input.Input.{Input}, specs.declared.input.Input.TheVariants.{Good}, specs.Inputs.{HasFit, IsOperationChange}, specs.Rules.{both_rule, with_change}, proofs.Gathered.{arrays_fit}, proofs.Told.{told_fit, refreshed_between}}
use Rattle.formula_core.proofs.operation_change.change_of_both.Goals as goal

pub of_both-requires-clause-fit : goal.of_both-requires-clause-fit
of_both-requires-clause-fit c =
    let w = c.in-Good-Good in
    told_fit (c.again.result ∷ c.again-in-Good-Good.result ∷ []) (c.of.result ∷ c.of-in-Good-Good.result ∷ []) ((w.left, w.of_left) ∷ (w.right, w.of_right) ∷ [])
    (sym c.again.ensures, c.of.ensures, (sym c.again-in-Good-Good.ensures, c.of-in-Good-Good.ensures, tt))
    (arrays_fit (Good w.left w.of_left ∷ Good w.right w.of_right ∷ []) (subst HasFit w.is-0 c.requires.left, (subst HasFit w.is-1 c.requires.right, tt)))

pub returns-in-Good-Good-clause-change : goal.returns-in-Good-Good-clause-change
returns-in-Good-Good-clause-change c =
    let w = c.in-Good-Good in
    let rule = both_rule c.args.function in
    let r = with_change c.of_both.new.change c.of_both.result in
    let before = c.args.meter.now.ticks in
    let after = c.of_both.new.meter.ticks in
    subst (λ (i : Input). IsOperationChange rule (i ∷ c.args.right.now ∷ []) c.args.held.now before after r) (sym w.is-0)
    (subst (λ (i : Input). IsOperationChange rule (Good w.left w.of_left ∷ i ∷ []) c.args.held.now before after r) (sym w.is-1)
    (refreshed_between rule w.left w.right c.again.result c.again-in-Good-Good.result c.of.result c.of-in-Good-Good.result w.of_left w.of_right c.args.held.now before after r
    c.again.ensures c.again-in-Good-Good.ensures c.of.ensures c.of-in-Good-Good.ensures c.of_both.ensures.refreshed))
