use Rattle.{std.proofs.Common.{◌≡◌, ◌≤◌, ◌+◌, ◌∷◌, take, length}, change_rules.specs.Nodes.{AreArguments}}
use Rattle.formula_core.specs.Inputs.{arrays_among, written_inputs}
use Rattle.formula_core.proofs.index_change.change_of_arrays.Given as goal

abbrev pub invariant-loop-position : goal.invariant-loop-position
invariant-loop-position l = record {
  so_far : AreArguments (take l.count l.seen) (take l.count l.moved) (l.fn.indexed ∷ arrays_among (written_inputs (take l.position-index l.positions)));
  room : l.count ≤ l.position-index + 1;
  wide : length l.seen ≡ 5;
  as_wide : length l.moved ≡ 5;
}
