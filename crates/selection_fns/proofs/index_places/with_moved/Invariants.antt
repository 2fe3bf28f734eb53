use Rattle.std.proofs.Common.{◌≡◌, ◌+◌, ◌++◌, map, take, vec_len, vec_capacity}
use Rattle.selection_fns.proofs.index_places.with_moved.Given as goal

abbrev pub invariant-loop-k : goal.invariant-loop-k
invariant-loop-k l = record {
  room : vec_capacity l.list ≡ vec_capacity l.fn.list;
  long : vec_len l.list ≡ vec_len l.fn.list + l.k;
  made : l.list.items ≡ l.fn.list.items ++ map (λ place. l.by + place) (take l.k l.places);
}
