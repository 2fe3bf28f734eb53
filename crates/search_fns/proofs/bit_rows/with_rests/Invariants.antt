use Rattle.{std.proofs.Common.{◌≡◌, ℕ, ◌<◌, IsTrue, get_or, ◌+◌, ◌^◌, ◌++◌, pos, map, take, vec_len, vec_capacity}, item_fns.specs.Numbers.{floor_div, is_number}}
use Rattle.search_fns.proofs.bit_rows.with_rests.Given as goal

abbrev pub invariant-loop-place : goal.invariant-loop-place
invariant-loop-place l = record {
  room : vec_capacity l.list ≡ vec_capacity l.fn.list;
  long : vec_len l.list ≡ vec_len l.fn.list + l.place;
  made : l.list.items ≡ l.fn.list.items ++ map (λ z. floor_div z (pos (2 ^ l.dropped))) (take l.place l.numbers);
  fit : (k : ℕ) → k < l.place → IsTrue (is_number (get_or l.numbers k (pos 0)));
}
