use Rattle.std.{proofs.Common.{◌≡◌, ◌∙◌, sym, ap, subst, cond, Some, IsSome, refl, List, arith, inl, length}, specs.Map.{lookup}}
use Rattle.dep_order.{specs.Users.{TakesOneMore}, specs.Room.{IsLarger}, proofs.Noting.{room_here, room_written, same_lists, used_written, written_over}, proofs.Roomed.{listed, unlisted}, proofs.room.give_list.Given.{Over}, proofs.room.give_list.Goals.{After-take_place, After-unwrap-none}}
use Rattle.dep_order.proofs.room.give_list.Goals as goal

-- the table has the larger list for the node
written : (g : Over) (c : After-take_place g) (q : _) → lookup (g.N.PartialEq.eq q) (c.get_mut.follows.lender c.take_place.new.those).entries
    ≡ cond (g.N.PartialEq.eq c.args.node q) (Some c.take_place.new.those) (lookup (g.N.PartialEq.eq q) c.args.users.now.entries)
written g c = ((c.get_mut.follows.holds c.take_place.new.those).3 (subst (λ o. IsSome o) c.in-Some.ensures.value refl)).0

-- the table has the given list for the node
inserted : (g : Over) (c : After-unwrap-none g) (q : _)
    → lookup (g.N.PartialEq.eq q) c.insert.new.self.entries ≡ cond (g.N.PartialEq.eq c.args.node q) (Some c.args.list) (lookup (g.N.PartialEq.eq q) c.args.users.now.entries)
inserted g c = written_over g.N.PartialEq.eq c.get_mut.follows.lender-at-none.entries c.args.users.now.entries c.insert.new.self.entries c.args.node c.args.list
    (ap (λ m. m.entries) c.get_mut.follows.holds-at-none) (rw c.unwrap-none.ensures at c.insert.ensures.updates).0

-- the given list takes one node more
takes_more : (g : Over) (c : After-unwrap-none g) → TakesOneMore c.args.list
takes_more g c =
    let was = ap (λ (ks : List _). length ks) (unlisted g.N.PartialEq.eq g.met.N.Eq.laws c.requires.exact c.args.users.now.entries c.args.node (sym c.in-None.ensures.value)) in
    omega (arith, c.requires.larger.room, was, ap (λ (ks : List _). length ks) c.requires.larger.empty)

pub take_place-requires : goal.take_place-requires
take_place-requires g c =
    subst (λ (ks : List _). IsLarger c.args.list ks) (listed g.N.PartialEq.eq g.met.N.Eq.laws c.requires.exact c.args.users.now.entries c.args.node c.in-Some.those.now (sym c.in-Some.ensures.value)) c.requires.larger

pub returns-in-Some-clause-own : goal.returns-in-Some-clause-own
returns-in-Some-clause-own g c =
    room_here g.N.PartialEq.eq g.met.N.Eq.laws c.requires.exact _ _ _ _ (written g (goal.at.returns-in-Some-clause-own g c).After-take_place) c.take_place.ensures.room

pub returns-in-Some-clause-kept : goal.returns-in-Some-clause-kept
returns-in-Some-clause-kept g c =
    room_written g.N.PartialEq.eq g.met.N.Eq.laws c.requires.exact _ _ _ _ (written g (goal.at.returns-in-Some-clause-kept g c).After-take_place) c.take_place.ensures.room

pub returns-in-Some-clause-stay : goal.returns-in-Some-clause-stay
returns-in-Some-clause-stay g c =
    same_lists g.N.PartialEq.eq g.met.N.Eq.laws c.requires.exact _ _ _ _ (written g (goal.at.returns-in-Some-clause-stay g c).After-take_place)
    (c.take_place.ensures.nodes ∙ sym (listed g.N.PartialEq.eq g.met.N.Eq.laws c.requires.exact _ c.args.node c.in-Some.those.now (sym c.in-Some.ensures.value)))

pub returns-in-Some-clause-used : goal.returns-in-Some-clause-used
returns-in-Some-clause-used g c = λ references here used.
    used_written g.N.PartialEq.eq g.met.N.Eq.laws c.requires.exact _ _ _ _ (written g (goal.at.returns-in-Some-clause-used g c).After-take_place) references (inl here) used

pub returns-in-None-clause-own : goal.returns-in-None-clause-own
returns-in-None-clause-own g c =
    let here = (goal.at.returns-in-None-clause-own g c).After-unwrap-none in
    room_here g.N.PartialEq.eq g.met.N.Eq.laws c.requires.exact _ _ _ _ (inserted g here) (takes_more g here)

pub returns-in-None-clause-kept : goal.returns-in-None-clause-kept
returns-in-None-clause-kept g c =
    let here = (goal.at.returns-in-None-clause-kept g c).After-unwrap-none in
    room_written g.N.PartialEq.eq g.met.N.Eq.laws c.requires.exact _ _ _ _ (inserted g here) (takes_more g here)

pub returns-in-None-clause-stay : goal.returns-in-None-clause-stay
returns-in-None-clause-stay g c =
    same_lists g.N.PartialEq.eq g.met.N.Eq.laws c.requires.exact _ _ _ _ (inserted g (goal.at.returns-in-None-clause-stay g c).After-unwrap-none)
    (c.requires.larger.empty ∙ sym (unlisted g.N.PartialEq.eq g.met.N.Eq.laws c.requires.exact _ c.args.node (sym c.in-None.ensures.value)))

pub returns-in-None-clause-used : goal.returns-in-None-clause-used
returns-in-None-clause-used g c = λ references here used.
    used_written g.N.PartialEq.eq g.met.N.Eq.laws c.requires.exact _ _ _ _ (inserted g (goal.at.returns-in-None-clause-used g c).After-unwrap-none) references (inl here) used
