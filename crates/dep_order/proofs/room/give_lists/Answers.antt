use Rattle.std.{proofs.Common.{List, [], ◌∷◌, arith, length, sym, ap, subst}, specs.List.{Contains}, proofs.lemmas.Bool.{false≢true}, proofs.lemmas.List.{length-append}}
use Rattle.dep_order.proofs.Roomed.{was_last, lists_left, asked_last, none_left, nothing_in}
use Rattle.dep_order.proofs.room.give_lists.Goals as goal

pub give_list-requires-clause-larger : goal.give_list-requires-clause-larger
give_list-requires-clause-larger g c =
    (c.loop-given.invariant.lists c.requires.lists.0 c.requires.lists.1).larger c.in-Some.given.0 c.in-Some.given.1
    (was_last g.N.PartialEq.eq g.met.N.Eq.laws c.requires.exact c.loop-given.lists.entries c.pop.new.self.entries c.in-Some.given.0 c.in-Some.given.1 c.in-Some.ensures.entries c.in-Some.ensures.updates.0)

pub loop-given-preserved : goal.loop-given-preserved
loop-given-preserved g c =
    let eq = g.N.PartialEq.eq in
    let laws = g.met.N.Eq.laws in
    let lists = c.loop-given.lists.entries in
    let left = c.pop.new.self.entries in
    let now = c.loop-given.invariant in
    let given = c.give_list.ensures in
    record {
      lists = λ references are. lists_left eq laws c.requires.exact lists left c.in-Some.given.0 c.in-Some.given.1 c.in-Some.ensures.entries c.in-Some.ensures.updates.0 c.loop-given.users.entries c.give_list.new.users.entries given.own given.kept given.stay references (now.lists references are);
      same = λ a b. (
        (λ u. (now.same a b).0 (subst (λ (ks : List _). Contains ks a) (given.stay b) u)),
        (λ u. subst (λ (ks : List _). Contains ks a) (sym (given.stay b)) ((now.same a b).1 u)),
      );
      used = λ references are used. given.used references
          (asked_last eq laws c.requires.exact lists left c.in-Some.given.0 c.in-Some.given.1 c.in-Some.ensures.entries c.in-Some.ensures.updates.0 c.loop-given.users.entries c.give_list.new.users.entries given.own given.kept given.stay references (now.lists references are))
          (now.used references are used);
      room = omega (arith, now.room, given.spare, ap (λ (es : List _). length es) c.in-Some.ensures.entries, length-append left (c.in-Some.given ∷ []));
    }

pub returns-clause-room : goal.returns-clause-room
returns-clause-room g c = λ references are.
    none_left g.N.PartialEq.eq g.met.N.Eq.laws c.requires.exact c.loop-given.users.entries references c.loop-given.lists.entries (nothing_in c.loop-given.lists.entries (λ l. false≢true (c.in_default.ensures.found.1 l))) (c.loop-given.invariant.lists references are)
