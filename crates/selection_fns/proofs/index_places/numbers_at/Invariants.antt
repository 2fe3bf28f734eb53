use Rattle.{std.proofs.Common.{◌≡◌, ◌≤◌, ◌*◌, length, map, take, get_or, pos, vec_len, vec_capacity}, selection_fns.specs.IndexPlaces.{sums}}
use Rattle.selection_fns.proofs.index_places.numbers_at.Given as goal

abbrev pub invariant-loop-k : goal.invariant-loop-k
invariant-loop-k l = record {
  room : length l.heads * length l.row ≤ vec_capacity l.list;
  long : vec_len l.list ≡ l.k * length l.row;
  made : l.list.items ≡ map (λ place. get_or l.numbers place (pos 0)) (sums (take l.k l.heads) l.row);
}
