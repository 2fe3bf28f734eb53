use Rattle.std.{proofs.Common.{◌≡◌, ◌<◌, ℕ, pos, false, get_or, map}, specs.Ordering.{int_eq}}
use Rattle.search_fns.proofs.lookup.before_item.Given as goal

abbrev pub invariant-loop-place : goal.invariant-loop-place
invariant-loop-place g l = (k : ℕ) → k < l.place → int_eq (g.T.Key.code l.sought) (get_or (map g.T.Key.code l.items) k (pos 0)) ≡ false
