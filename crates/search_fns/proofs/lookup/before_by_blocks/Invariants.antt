use Rattle.std.{proofs.Common.{◌≡◌, ◌≤◌, ◌+◌, ◌-◌, length, map, drop}, specs.Ordering.{int_eq}, specs.List.{position_or_len}}
use Rattle.search_fns.proofs.lookup.before_by_blocks.Given as goal

abbrev pub invariant-loop-passed : goal.invariant-loop-passed
invariant-loop-passed g l = record {
  inside : l.passed ≤ length l.items;
  first : position_or_len (int_eq (g.T.Key.code l.sought)) (map g.T.Key.code l.items) ≡ l.passed + position_or_len (int_eq (g.T.Key.code l.sought)) (map g.T.Key.code (drop l.passed l.items));
}

abbrev pub decreases-loop-passed : goal.decreases-loop-passed
decreases-loop-passed g l = length l.items - l.passed
