use Rattle.{std.proofs.Common.{List, length, ap, arith, inl}, dep_order.proofs.Roomed.{asked_more, list_more}}
use Rattle.dep_order.proofs.room.add_list.Goals as goal

pub returns : goal.returns
returns g c = λ references are.
    list_more g.N.PartialEq.eq g.met.N.Eq.laws c.requires.exact c.args.users.now.entries c.args.lists.now.entries c.insert.new.self.entries references c.args.reference are c.in_ok-list.list
    (record { empty = c.in_ok-list.ensures.items; room = omega (arith, c.in_ok-list.ensures.capacity, ap (λ (ks : List _). length ks) c.in_ok-list.ensures.items, c.grown_to.ensures, c.in-Some.ensures.0) }) c.in_ok-insert.ensures.updates.0

pub returns-in_default : goal.returns-in_default
returns-in_default g c = λ references are.
    asked_more g.N.PartialEq.eq g.met.N.Eq.laws c.requires.exact c.args.users.now.entries c.args.lists.now.entries c.args.lists.now.entries references c.args.reference are (inl c.in_default.ensures)
