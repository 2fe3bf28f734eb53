use Rattle.{std.proofs.Common.{◌≡◌, ◌≤◌, ◌+◌, ◌-◌, ◌++◌, get_or, vec_len, vec_capacity}, arrays_core.specs.Building.{listed}}
use Rattle.arrays_core.proofs.builder.extend_back.Given as goal

abbrev pub invariant-loop-k : goal.invariant-loop-k
invariant-loop-k g l = record {
  room : vec_len l.list + l.count ≤ vec_capacity l.list + l.k;
  made : (d : g.row.T.Denot) → l.list.items ≡ l.fn.items.items ++ listed l.k (λ j. get_or l.from (l.last - j) d);
}
