use Rattle.{std.proofs.Common.{◌≡◌, ◌≤◌, ◌*◌, length, take, vec_len, vec_capacity}, selection_fns.specs.IndexPlaces.{sums}}
use Rattle.selection_fns.proofs.index_places.sums.Given as goal

abbrev pub invariant-loop-k : goal.invariant-loop-k
invariant-loop-k l = record {
  room : length l.first * length l.second ≤ vec_capacity l.list;
  long : vec_len l.list ≡ l.k * length l.second;
  made : l.list.items ≡ sums (take l.k l.first) l.second;
}
