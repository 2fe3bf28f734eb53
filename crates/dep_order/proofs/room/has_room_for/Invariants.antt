use Rattle.{std.proofs.Common.{take}, dep_order.specs.Users.{HasRoomFor}}
use Rattle.dep_order.proofs.room.has_room_for.Given as goal

abbrev pub invariant-loop-reference : goal.invariant-loop-reference
invariant-loop-reference g l = HasRoomFor g.N.PartialEq.eq l.users.entries (take l.reference-index l.references)
