use Rattle.std.{proofs.Common.{◌≡◌, sym, ap, subst, cond, Some, IsSome, refl, List, inl, arith}, specs.Prelude.{Vec}, specs.Map.{lookup}}
use Rattle.dep_order.{specs.Users.{HasRoomFor, TakesOneMore}, proofs.Noting.{forget_uses, room_kept, used_written}, proofs.users.forget.Given.{Over}, proofs.users.forget.Goals.{After-take_out}}
use Rattle.dep_order.proofs.users.forget.Goals as goal

-- the table has the shorter list for the reference
written : (g : Over) (c : After-take_out g) (q : _) → lookup (g.N.PartialEq.eq q) (c.get_mut.follows.lender c.take_out.new.those).entries
    ≡ cond (g.N.PartialEq.eq c.args.reference q) (Some c.take_out.new.those) (lookup (g.N.PartialEq.eq q) c.args.users.now.entries)
written g c = ((c.get_mut.follows.holds c.take_out.new.those).3 (subst (λ o. IsSome o) c.in-Some.ensures.value refl)).0

pub returns-in-Some-clause-uses : goal.returns-in-Some-clause-uses
returns-in-Some-clause-uses g c =
    forget_uses g.N.PartialEq.eq g.met.N.Eq.laws c.requires _ _ _ _ (written g (goal.at.returns-in-Some-clause-uses g c).After-take_out) _ (sym c.in-Some.ensures.value) c.args.node c.take_out.ensures.nodes

pub returns-in-Some-clause-room : goal.returns-in-Some-clause-room
returns-in-Some-clause-room g c =
    let more = λ (room : TakesOneMore c.in-Some.those.now). let still : TakesOneMore c.take_out.new.those = omega (arith, room, c.take_out.ensures.room, c.take_out.ensures.fewer) in still in
    room_kept g.N.PartialEq.eq g.met.N.Eq.laws c.requires _ _ _ _ (written g (goal.at.returns-in-Some-clause-room g c).After-take_out) _ (sym c.in-Some.ensures.value) more

pub returns-in_default-clause-room : goal.returns-in_default-clause-room
returns-in_default-clause-room g c = λ refs h. subst (λ (fs : List (_ × Vec _ _)). HasRoomFor g.N.PartialEq.eq fs refs) (sym (ap (λ m. m.entries) c.get_mut.follows.holds-at-none)) h

pub returns-in-Some-clause-used : goal.returns-in-Some-clause-used
returns-in-Some-clause-used g c = λ references here used.
    used_written g.N.PartialEq.eq g.met.N.Eq.laws c.requires _ _ _ _ (written g (goal.at.returns-in-Some-clause-used g c).After-take_out) references (inl here) used
