use Rattle.std.{proofs.Common.{◌≡◌, map, take}, specs.Ordering.{int_eq}, specs.List.{list_any}}
use Rattle.search_fns.proofs.lookup.has_item.Given as goal

abbrev pub invariant-loop-item : goal.invariant-loop-item
invariant-loop-item g l = l.is_found ≡ list_any (int_eq (g.T.Key.code l.sought)) (take l.item-index (map g.T.Key.code l.items))
