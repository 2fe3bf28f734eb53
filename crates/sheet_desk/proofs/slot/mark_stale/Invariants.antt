use Rattle.{std.{proofs.Common.{◌≡◌, map, take, drop, ◌++◌}, specs.Option.{option_map}}, sheet_desk.specs.Held.{marked}}
use Rattle.sheet_desk.proofs.slot.mark_stale.Given as goal

abbrev pub invariant-loop-held : goal.invariant-loop-held
invariant-loop-held l = l.slots ≡ map (option_map marked) (take l.held-index l.fn.slots) ++ drop l.held-index l.fn.slots
