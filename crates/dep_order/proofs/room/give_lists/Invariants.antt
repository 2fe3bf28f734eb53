use Rattle.{std.proofs.Common.{◌≤◌, ◌↔◌, List, length}, indexmap.specs.IndexMap.{spare}}
use Rattle.dep_order.{specs.Users.{Uses, HasNoEmptyBut}, specs.Room.{AreListsFor}}
use Rattle.dep_order.proofs.room.give_lists.Given as goal

abbrev pub invariant-loop-given : goal.invariant-loop-given
invariant-loop-given g l = record {
  lists : (references : List _) → AreListsFor g.N.PartialEq.eq l.fn.users.entries references l.fn.lists.entries → AreListsFor g.N.PartialEq.eq l.users.entries references l.lists.entries;
  same : (a b : _) → Uses g.N.PartialEq.eq l.users.entries a b ↔ Uses g.N.PartialEq.eq l.fn.users.entries a b;
  used : (references : List _) → AreListsFor g.N.PartialEq.eq l.fn.users.entries references l.fn.lists.entries → HasNoEmptyBut g.N.PartialEq.eq l.fn.users.entries references → HasNoEmptyBut g.N.PartialEq.eq l.users.entries references;
  room : length l.lists.entries ≤ spare l.users;
}

abbrev pub decreases-loop-given : goal.decreases-loop-given
decreases-loop-given g l = length l.lists.entries
