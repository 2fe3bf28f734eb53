use Rattle.std.proofs.Common.{sym, arith}
use Rattle.dep_order.proofs.room.users_without_room.Goals as goal

pub returns-then-count-capacity : goal.returns-then-count-capacity
returns-then-count-capacity g c = (c.in-Some.those.now, sym c.in-Some.ensures.value, omega (arith, c.len-count.ensures, c.capacity.ensures, c.if-count-capacity.true))
