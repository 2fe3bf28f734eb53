use Rattle.std.{proofs.Common.{◌≡◌, ◌∙◌, inl, inr, List, None, get_or, sym, ap, subst, arith, below_more, ⊎_elim}, specs.List.{Contains}, specs.Map.{keys_of}, proofs.lemmas.List.{get_or_default}}
use Rattle.dep_order.{specs.Users.{Uses, EachFollowsUsers}, proofs.Climbing.{within_first, within_user, reaches_on}, proofs.Found.{found_closed, found_has, found_kept, found_only, keys_inserted, nothing_more}, proofs.users.+climb.Given.{Over}, proofs.users.+climb.Goals.{After-user-item}}
use Rattle.dep_order.proofs.users.+climb.Goals as goal

-- the user refers to the node
uses : (g : Over) (t : _) (c : After-user-item g t) → Uses g.N.PartialEq.eq c.args.users.now.entries c.user-item.result c.args.node.now
uses g t c = subst (λ (us : List _). Contains us c.user-item.result) c.users_of-user-items.ensures (c.loop-user.user-index, c.loop-user-test.true, sym c.user-item.is)

pub overflow_sub-height : goal.overflow_sub-height
overflow_sub-height g t c =
    omega (arith, within_first g.N.PartialEq.eq c.args.users.now.entries c.args.height _ _ c.requires.within (uses g t (goal.at.overflow_sub-height g t c).After-user-item))

pub climb-requires : goal.climb-requires
climb-requires g t c =
    let here = uses g t (goal.at.climb-requires g t c).After-user-item in
    let some = within_first g.N.PartialEq.eq c.args.users.now.entries c.args.height _ _ c.requires.within here in
    λ κs outlives. (omega (arith, some, c.decreases), (outlives.0, (outlives.1, (c.requires.exact, (within_user g.N.PartialEq.eq c.args.users.now.entries c.args.height _ _ c.requires.within here, c.loop-user.invariant.closed)))))

pub loop-user-init : goal.loop-user-init
loop-user-init g t c = record { closed = c.requires.closed; kept = λ a h. h; here = λ k h. absurd (omega (arith, h)); sound = λ a h. inl h; none = λ h. h }

pub loop-user-preserved : goal.loop-user-preserved
loop-user-preserved g t c =
    let eq = g.N.PartialEq.eq in
    let table = c.args.users.now.entries in
    let node = c.args.node.now in
    let user = c.user-item.result in
    let items = c.users_of-user-items.result.now in
    let this : get_or items c.loop-user.user-index node ≡ user = get_or_default items c.loop-user.user-index node user c.loop-user-test.true ∙ sym c.user-item.is in
    let known = c.in_ok-climb.ensures in
    record {
      closed = known.closed;
      kept = λ a h. known.kept a (c.loop-user.invariant.kept a h);
      here = below_more _ _ (λ k h. known.kept (get_or items k node) (c.loop-user.invariant.here k h))
          (subst (λ (u : _). Contains (keys_of c.climb.new.found.entries) u) (sym this) known.named);
      sound = λ a h. ⊎_elim (λ l. c.loop-user.invariant.sound a l) (λ r. inr (inr (reaches_on eq table node user a (uses g t (goal.at.loop-user-preserved g t c).After-user-item) r))) (known.sound a h);
      none = λ h. known.none (c.loop-user.invariant.none h);
    }

pub returns-clause-closed : goal.returns-clause-closed
returns-clause-closed g t c =
    let eq = g.N.PartialEq.eq in
    let table = c.args.users.now.entries in
    let found = keys_of c.loop-user.found.entries in
    subst (λ (ks : List _). EachFollowsUsers eq table ks) (sym (ap keys_of c.in_ok-insert.ensures.entries ∙ keys_inserted g.N.PartialEq.eq c.loop-user.found.entries c.args.node.now None))
    (found_closed eq c.requires.exact found c.args.node.now (λ a b. Uses eq table b a) c.loop-user.invariant.closed
    (λ b u.
    let at = subst (λ (us : List _). Contains us b) (sym c.users_of-user-items.ensures) u in
    let there = c.loop-user.invariant.here at.0 (omega (arith, at.1, c.loop-user-test.false)) in
    subst (λ (y : _). Contains found y) (get_or_default c.users_of-user-items.result.now at.0 c.args.node.now b at.1 ∙ at.2) there))

pub returns-clause-named : goal.returns-clause-named
returns-clause-named g t c = subst (λ (ks : List _). Contains ks c.args.node.now) (sym (ap keys_of c.in_ok-insert.ensures.entries ∙ keys_inserted g.N.PartialEq.eq c.loop-user.found.entries c.args.node.now None)) (found_has g.N.PartialEq.eq c.requires.exact (keys_of c.loop-user.found.entries) c.args.node.now)

pub returns-clause-kept : goal.returns-clause-kept
returns-clause-kept g t c = λ a h. subst (λ (ks : List _). Contains ks a) (sym (ap keys_of c.in_ok-insert.ensures.entries ∙ keys_inserted g.N.PartialEq.eq c.loop-user.found.entries c.args.node.now None)) (found_kept g.N.PartialEq.eq c.requires.exact (keys_of c.loop-user.found.entries) c.args.node.now a (c.loop-user.invariant.kept a h))

pub returns-clause-sound : goal.returns-clause-sound
returns-clause-sound g t c = λ a h.
    ⊎_elim (λ l. c.loop-user.invariant.sound a l) (λ r. inr (inl r)) (found_only g.N.PartialEq.eq c.requires.exact (keys_of c.loop-user.found.entries) c.args.node.now a (subst (λ (ks : List _). Contains ks a) (ap keys_of c.in_ok-insert.ensures.entries ∙ keys_inserted g.N.PartialEq.eq c.loop-user.found.entries c.args.node.now None) h))

pub returns-clause-none : goal.returns-clause-none
returns-clause-none g t c = λ h. nothing_more g.N.PartialEq.eq c.loop-user.found.entries _ c.args.node.now c.in_ok-insert.ensures.updates.0 (c.loop-user.invariant.none h)
