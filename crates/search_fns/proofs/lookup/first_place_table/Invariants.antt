use Rattle.std.{proofs.Common.{◌≡◌, ◌<◌, ◌+◌, ◌+ℤ◌, ℕ, pos, length, get_or, map, drop}, specs.Ordering.{int_eq}, specs.List.{position_or_len}}
use Rattle.search_fns.proofs.lookup.first_place_table.Given as goal

abbrev pub invariant-loop-place : goal.invariant-loop-place
invariant-loop-place g l = record {
  long : length l.firsts.items ≡ l.span;
  first : (j : ℕ) → j < length l.firsts.items → get_or l.firsts.items j 0 ≡ l.place + position_or_len (int_eq (l.least +ℤ pos j)) (drop l.place (map g.T.Key.code l.items));
}
