use Rattle.std.{proofs.Common.{◌≡◌, ℤ, map, drop}, specs.Ordering.{int_eq}, specs.List.{position_from}, specs.HashMap.{get}}
use Rattle.search_fns.proofs.lookup.first_place_map.Given as goal

abbrev pub invariant-loop-before : goal.invariant-loop-before
invariant-loop-before g l = (q : ℤ) → get int_eq l.places q ≡ position_from (int_eq q) l.before (drop l.before (map g.T.Key.code l.items))
