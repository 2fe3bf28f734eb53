use Rattle.std.{proofs.Common.{ℕ, ◌<◌, get_or}, specs.List.{Contains}, specs.Map.{keys_of}}
use Rattle.dep_order.proofs.users.first_found.Given as goal

abbrev pub invariant-loop-reference : goal.invariant-loop-reference
invariant-loop-reference g l = (x : _) (k : ℕ) → k < l.reference-index → Contains (keys_of l.found.entries) (get_or l.references k x) → ⊥
