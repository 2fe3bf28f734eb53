use Rattle.{std.proofs.Common.{◌≡◌, ℕ, List, map, take}, formula_core.specs.Outcomes.{error_in}}
use Rattle.formula_core.proofs.evaluation.errors_shown.Given as goal

abbrev pub invariant-loop-reference : goal.invariant-loop-reference
invariant-loop-reference g l = l.errors.items ≡ map (λ (x : List ℕ). error_in (g.S.Shows.shows l.names x)) (take l.reference-index l.references)
