use Rattle.{std.proofs.Common.{◌≡◌, ◌+◌, ◌*◌, ◌++◌, take, vec_len, vec_capacity}, selection_fns.specs.IndexPlaces.{sums}}
use Rattle.selection_fns.proofs.index_places.with_pairs.Given as goal

abbrev pub invariant-loop-k : goal.invariant-loop-k
invariant-loop-k l = record {
  room : vec_capacity l.list ≡ vec_capacity l.fn.list;
  long : vec_len l.list ≡ vec_len l.fn.list + l.k * 2;
  made : l.list.items ≡ l.fn.list.items ++ sums (take l.k l.first) l.second;
}
