use Rattle.std.{proofs.Common.{◌≡◌, ◌⊎◌, ℕ, ◌<◌, get_or}, specs.List.{Contains}, specs.Map.{keys_of}}
use Rattle.dep_order.{specs.Reachability.{Reaches}, specs.Users.{Uses, EachFollowsUsers, HasNothing}}
use Rattle.dep_order.proofs.users.+climb.Given as goal

abbrev pub decreases-climb : goal.decreases-climb
decreases-climb g l = l.height

abbrev pub invariant-loop-user : goal.invariant-loop-user
invariant-loop-user g l = record {
  closed : EachFollowsUsers g.N.PartialEq.eq l.users.entries (keys_of l.found.entries);
  kept : (a : _) → Contains (keys_of l.fn.found.entries) a → Contains (keys_of l.found.entries) a;
  here : (k : ℕ) → k < l.user-index → Contains (keys_of l.found.entries) (get_or l.user-items k l.node);
  sound : (a : _) → Contains (keys_of l.found.entries) a → Contains (keys_of l.fn.found.entries) a ⊎ ((a ≡ l.node) ⊎ Reaches (Uses g.N.PartialEq.eq l.users.entries) a l.node);
  none : HasNothing g.N.PartialEq.eq l.fn.found.entries → HasNothing g.N.PartialEq.eq l.found.entries;
}
