use Rattle.std.proofs.Common.{◌≡◌, ◌++◌, ◌+◌, take, length, reverse}
use Rattle.structural_fns.proofs.transpose.from_last.Given as goal

abbrev pub invariant-loop-k : goal.invariant-loop-k
invariant-loop-k l = record {
  made : l.reversed.items ++ reverse (take l.k l.list) ≡ reverse l.list;
  long : length l.reversed.items + l.k ≡ length l.list;
  inline : l.reversed.capacity ≡ 4;
}
