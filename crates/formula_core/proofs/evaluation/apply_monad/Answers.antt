use Rattle.{std.proofs.Common.{◌∙◌, ap, sym}, arrays_core.{specs.Arrays.{ArrayValue}, specs.Outcomes.{given}}}
use Rattle.formula_core.{specs.Evaluated.{outcome_of}, specs.Meaning.{of_right, applied1}}
use Rattle.formula_core.proofs.evaluation.apply_monad.Goals as goal

pub returns-in_ok-outcome-in-Ok : goal.returns-in_ok-outcome-in-Ok
returns-in_ok-outcome-in-Ok c =
    let f = c.args.function in
    c.as_evaluated.ensures ∙ c.in_ok-outcome-in-Ok.ensures ∙ ap (λ (b : ArrayValue). given (of_right f b)) c.array.ensures ∙ sym (ap (λ r. applied1 f (outcome_of r)) c.in-Ok.is)
