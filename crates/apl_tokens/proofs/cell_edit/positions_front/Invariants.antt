use Rattle.{std.proofs.Common.{◌≡◌, length}, apl_tokens.{specs.Reading.{Reads}, proofs.EditBytes.{open_positions}}}
use Rattle.apl_tokens.proofs.cell_edit.positions_front.Given as goal

abbrev pub invariant-loop : goal.invariant-loop
invariant-loop l = (length l.positions.items ≡ l.counter) × (l.positions.capacity ≡ 4) × Reads l.fn.text l.rest (open_positions l.positions.items)
