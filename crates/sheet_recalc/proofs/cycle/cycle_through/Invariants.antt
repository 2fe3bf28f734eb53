use Rattle.std.{proofs.Common.{◌≡◌, ◌-◌, ℕ, List, ◌∷◌, length}, specs.Str.{bytes_eq}, specs.List.{Contains, position_or_len}, specs.Map.{keys_of}}
use Rattle.{dep_order.specs.Reachability.{Chain}, sheet_recalc.{specs.Names.{Refers}, specs.ProposedSheet.{outline_of, proposed_names}}}
use Rattle.sheet_recalc.proofs.cycle.cycle_through.Given as goal

abbrev pub invariant-loop-next : goal.invariant-loop-next
invariant-loop-next l = record {
  walked : (via : List (List ℕ)) × (l.cycle.items ≡ l.proposed.name ∷ via) × Chain (Refers (proposed_names (outline_of l.proposed))) l.proposed.name via l.next;
  hit : Contains (keys_of l.found.entries) l.next;
}

abbrev pub decreases-loop-next : goal.decreases-loop-next
decreases-loop-next l = length (keys_of l.found.entries) - position_or_len (bytes_eq l.next) (keys_of l.found.entries)
