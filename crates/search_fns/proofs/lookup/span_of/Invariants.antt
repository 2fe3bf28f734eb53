use Rattle.std.proofs.Common.{ℕ, pos, ◌<◌, ◌≤ℤ◌, get_or, map}
use Rattle.search_fns.proofs.lookup.span_of.Given as goal

abbrev pub invariant-loop-item : goal.invariant-loop-item
invariant-loop-item g l = (k : ℕ) → k < l.item-index → (l.least ≤ℤ get_or (map g.T.Key.code l.items) k (pos 0)) × (get_or (map g.T.Key.code l.items) k (pos 0) ≤ℤ l.greatest)
