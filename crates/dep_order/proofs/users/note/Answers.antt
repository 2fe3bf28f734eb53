use Rattle.std.{proofs.Common.{◌≡◌, ◌∙◌, inr, sym, subst, cond, Some, None, IsSome, refl, []}, specs.Prelude.{Vec}, specs.Map.{lookup}}
use Rattle.dep_order.{specs.Users.{IsReady}, proofs.Noting.{note_uses, ready_written, used_written}, proofs.Following.{contains_here}, proofs.users.note.Given.{Over}, proofs.users.note.Goals.{After-put_last, In_default}}
use Rattle.dep_order.proofs.users.note.Goals as goal

-- the table has the longer list for the reference
written : (g : Over) (c : After-put_last g) (q : _) → lookup (g.N.PartialEq.eq q) (c.get_mut.follows.lender c.put_last.new.those).entries
    ≡ cond (g.N.PartialEq.eq c.args.reference q) (Some c.put_last.new.those) (lookup (g.N.PartialEq.eq q) c.args.users.now.entries)
written g c = ((c.get_mut.follows.holds c.put_last.new.those).3 (subst (λ o. IsSome o) c.in-Some.ensures.value refl)).0

-- the table has an entry for the reference
has_one : (g : Over) (c : In_default g) → ⊥
has_one g c =
    let ready = c.requires.ready c.args.reference (contains_here c.args.reference []) in
    let never : Some ready.0 ≡ None = sym ready.1 ∙ sym c.in_default.ensures.value in absurd cc

pub put_last-requires-clause-ready : goal.put_last-requires-clause-ready
put_last-requires-clause-ready g c =
    let ready = c.requires.ready c.args.reference (contains_here c.args.reference []) in
    let same : Some ready.0 ≡ Some c.in-Some.those.now = sym ready.1 ∙ sym c.in-Some.ensures.value in
    let this : ready.0 ≡ c.in-Some.those.now = cc in
    subst (λ (s : Vec _ _). IsReady s c.args.node) this ready.2

pub returns-in-Some-clause-uses : goal.returns-in-Some-clause-uses
returns-in-Some-clause-uses g c =
    note_uses g.N.PartialEq.eq g.met.N.Eq.laws c.requires.exact _ _ _ _ (written g (goal.at.returns-in-Some-clause-uses g c).After-put_last) _ (sym c.in-Some.ensures.value)
    c.args.node c.put_last.ensures.nodes

pub returns-in-Some-clause-room : goal.returns-in-Some-clause-room
returns-in-Some-clause-room g c =
    ready_written g.N.PartialEq.eq g.met.N.Eq.laws c.requires.exact _ _ _ _ (written g (goal.at.returns-in-Some-clause-room g c).After-put_last) c.args.node c.put_last.ensures.last

pub returns-in_default-clause-uses : goal.returns-in_default-clause-uses
returns-in_default-clause-uses g c = absurd (has_one g (goal.at.returns-in_default-clause-uses g c).In_default)

pub returns-in_default-clause-room : goal.returns-in_default-clause-room
returns-in_default-clause-room g c = absurd (has_one g (goal.at.returns-in_default-clause-room g c).In_default)

pub returns-in-Some-clause-used : goal.returns-in-Some-clause-used
returns-in-Some-clause-used g c = λ references used.
    used_written g.N.PartialEq.eq g.met.N.Eq.laws c.requires.exact _ _ _ _ (written g (goal.at.returns-in-Some-clause-used g c).After-put_last) references
    (inr (c.args.node, (c.put_last.ensures.nodes c.args.node).1 (inr refl))) used
