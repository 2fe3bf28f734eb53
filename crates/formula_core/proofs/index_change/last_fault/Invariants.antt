use Rattle.{std.{proofs.Common.{◌≡◌, drop}, specs.Option.{option_or}}, formula_core.specs.Inputs.{last_error, written_inputs}}
use Rattle.formula_core.proofs.index_change.last_fault.Given as goal

abbrev pub invariant-loop-position : goal.invariant-loop-position
invariant-loop-position l = option_or (last_error (written_inputs (drop l.position-index l.positions))) l.last ≡ last_error (written_inputs l.positions)
