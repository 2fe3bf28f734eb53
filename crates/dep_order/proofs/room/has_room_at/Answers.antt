use Rattle.dep_order.proofs.Roomed.{room_more}
use Rattle.dep_order.proofs.room.has_room_at.Goals as goal

pub returns-in-None : goal.returns-in-None
returns-in-None g c = λ is references room. room_more g.N.PartialEq.eq c.args.users.now.entries c.args.node references room c.in-None.ensures
