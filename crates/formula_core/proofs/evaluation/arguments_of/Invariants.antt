use Rattle.{std.proofs.Common.{◌≡◌, ◌∷◌, ◌++◌, drop}, formula_core.specs.Evaluated.{written_arrays}}
use Rattle.formula_core.proofs.evaluation.arguments_of.Given as goal

abbrev pub invariant-loop-position : goal.invariant-loop-position
invariant-loop-position l = l.args.items ++ written_arrays (drop l.position-index l.positions) ≡ l.fn.array ∷ written_arrays l.positions
