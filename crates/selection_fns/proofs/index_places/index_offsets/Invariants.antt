use Rattle.std.proofs.Common.{◌≡◌, ◌≤◌, ◌+◌, ◌-◌, ◌*◌, length, map, take, unsigned_abs, vec_len, vec_capacity}
use Rattle.selection_fns.proofs.index_places.index_offsets.Given as goal

abbrev pub invariant-loop-k : goal.invariant-loop-k
invariant-loop-k l = record {
  room : vec_len l.list + length l.indices ≤ vec_capacity l.list + l.k;
  made : l.list.items ≡ map (λ index. (unsigned_abs index - 1) * l.step) (take l.k l.indices);
}
