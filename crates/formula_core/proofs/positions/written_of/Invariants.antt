use Rattle.std.proofs.Common.{◌≡◌, is_some, map, take}
use Rattle.formula_core.proofs.positions.written_of.Given as goal

abbrev pub invariant-loop-position : goal.invariant-loop-position
invariant-loop-position g l = l.written.items ≡ map is_some (take l.position-index l.positions)
