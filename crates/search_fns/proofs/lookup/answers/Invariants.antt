use Rattle.{std.{proofs.Common.{◌≡◌, length, map, take}, specs.Ordering.{int_eq}, specs.List.{position_or_len}}, search_fns.specs.Lookup.{Finds}}
use Rattle.search_fns.proofs.lookup.answers.Given as goal

abbrev pub invariant-loop-item : goal.invariant-loop-item
invariant-loop-item g l = record {
  finds : Finds (map g.T.Key.code l.items) l.lookup;
  found : l.found.items ≡ map (λ x. g.A.Answer.gives (position_or_len (int_eq (g.T.Key.code x)) (map g.T.Key.code l.items)) (length l.items)) (take l.item-index l.sought);
}
