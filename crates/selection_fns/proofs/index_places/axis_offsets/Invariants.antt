use Rattle.{std.proofs.Common.{◌≡◌, ◌≤◌, ◌+◌, ◌*◌, vec_len, vec_capacity}, arrays_core.specs.Building.{listed}}
use Rattle.selection_fns.proofs.index_places.axis_offsets.Given as goal

abbrev pub invariant-loop-before : goal.invariant-loop-before
invariant-loop-before l = record { room : vec_len l.list + l.axis ≤ vec_capacity l.list + l.before; made : l.list.items ≡ listed l.before (λ k. k * l.step) }
