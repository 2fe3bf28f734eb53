use Rattle.{std.proofs.Common.{◌∙◌, sym}, arrays_core.specs.Outcomes.{given}, formula_core.{specs.Evaluated.{outcome_of}, specs.Meaning.{of_both, applied2}}}
use Rattle.formula_core.proofs.evaluation.apply_dyad.Goals as goal

pub returns-in-Ok-left : goal.returns-in-Ok-left
returns-in-Ok-left c =
    let f = c.args.function in
    c.as_evaluated.ensures ∙ c.in_ok-outcome-in-Ok-left.ensures ∙ (λ i. given (of_both f (c.array.ensures i) (c.array-in-Ok-left.ensures i))) ∙ sym (λ i. applied2 f (outcome_of (c.in-Ok.is i)) (outcome_of (c.in-Ok-left.is i)))
