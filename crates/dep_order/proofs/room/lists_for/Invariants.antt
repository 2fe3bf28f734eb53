use Rattle.{std.proofs.Common.{take}, dep_order.specs.Room.{AreListsFor}}
use Rattle.dep_order.proofs.room.lists_for.Given as goal

abbrev pub invariant-loop-reference : goal.invariant-loop-reference
invariant-loop-reference g l = AreListsFor g.N.PartialEq.eq l.users.entries (take l.reference-index l.references) l.lists.entries
