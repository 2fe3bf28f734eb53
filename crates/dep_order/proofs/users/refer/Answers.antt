use Rattle.std.{proofs.Common.{◌++◌, refl, inl, inr, List, sym, subst, arith, ⊎_elim}, specs.List.{Contains}, proofs.lemmas.List.{take_all}, proofs.lemmas.List.Elements.{Contains-append_left, Contains-append_right, Contains-append_cases}}
use Rattle.dep_order.{specs.Users.{Uses}, proofs.Noting.{forget_more, note_more}, proofs.Following.{contains_none, contains_one}}
use Rattle.dep_order.proofs.users.refer.Goals as goal

pub loop-reference-preserved : goal.loop-reference-preserved
loop-reference-preserved g c = record {
  room = c.forget.ensures.room c.args.references.now c.loop-reference.invariant.room;
  used = c.forget.ensures.used (c.args.before.now ++ c.args.references.now)
      (Contains-append_left c.args.before.now c.args.references.now c.reference-item.result (c.loop-reference.reference-index, c.loop-reference-test.true, sym c.reference-item.is)) c.loop-reference.invariant.used;
  uses = forget_more c.args.node c.args.before.now c.loop-reference.reference-index c.reference-item.result c.loop-reference-test.true c.reference-item.is
      (Uses g.N.PartialEq.eq c.args.users.now.entries) (Uses g.N.PartialEq.eq c.loop-reference.users.entries) (Uses g.N.PartialEq.eq c.forget.new.users.entries) c.loop-reference.invariant.uses c.forget.ensures.uses;
}

pub loop-reference-2-init : goal.loop-reference-2-init
loop-reference-2-init g c =
    let all = take_all c.loop-reference.reference-index c.args.before.now (omega (arith, c.loop-reference-test.false)) in
    record {
      ready = λ b h. let r = c.loop-reference.invariant.room b h in (r.0, r.1, inl r.2);
      used = c.loop-reference.invariant.used;
      uses = λ a b. (
        (λ u. let p = (c.loop-reference.invariant.uses a b).0 u in inl (p.0, λ e h. p.1 e (subst (λ (xs : List _). Contains xs b) (sym all) h))),
        (λ p. ⊎_elim (λ l. (c.loop-reference.invariant.uses a b).1 (l.0, λ e h. l.1 e (subst (λ (xs : List _). Contains xs b) all h))) (λ r. absurd (contains_none b r.1)) p),
      );
    }

pub note-requires-clause-ready : goal.note-requires-clause-ready
note-requires-clause-ready g c = λ b h.
    c.loop-reference-2.invariant.ready b (subst (λ (y : _). Contains c.args.references.now y) (sym (contains_one c.reference-item-in-loop-reference-2.result b h))
    (c.loop-reference-2.reference-index, c.loop-reference-2-test.true, sym c.reference-item-in-loop-reference-2.is))

pub loop-reference-2-preserved : goal.loop-reference-2-preserved
loop-reference-2-preserved g c = record {
  ready = c.note.ensures.room c.args.references.now c.loop-reference-2.invariant.ready;
  used = c.note.ensures.used (c.args.before.now ++ c.args.references.now) c.loop-reference-2.invariant.used;
  uses = note_more c.args.node c.args.references.now c.loop-reference-2.reference-index c.reference-item-in-loop-reference-2.result c.loop-reference-2-test.true c.reference-item-in-loop-reference-2.is
      _ (Uses g.N.PartialEq.eq c.loop-reference-2.users.entries) (Uses g.N.PartialEq.eq c.note.new.users.entries) c.loop-reference-2.invariant.uses c.note.ensures.uses;
}

pub loop-reference-init : goal.loop-reference-init
loop-reference-init g c = record {
  room = c.requires.room;
  used = λ b there. ⊎_elim (λ l. inl (Contains-append_right c.args.before.now c.args.references.now b l)) (λ r. inr r) (c.requires.used b there);
  uses = λ a b. ((λ u. (u, λ e h. contains_none b h)), (λ p. p.0));
}

pub returns-clause-used : goal.returns-clause-used
returns-clause-used g c =
    let all = take_all c.loop-reference-2.reference-index c.args.references.now (omega (arith, c.loop-reference-2-test.false)) in
    c.drop_unused.ensures.used (λ b there. ⊎_elim
    (λ l. ⊎_elim (λ h. inl h)
    (λ h. inr (c.args.node, (c.loop-reference-2.invariant.uses c.args.node b).1 (inr (refl, subst (λ (xs : List _). Contains xs b) (sym all) h))))
    (Contains-append_cases c.args.before.now c.args.references.now b l))
    (λ r. inr r) (c.loop-reference-2.invariant.used b there))

pub returns-clause-uses : goal.returns-clause-uses
returns-clause-uses g c =
    let all = take_all c.loop-reference-2.reference-index c.args.references.now (omega (arith, c.loop-reference-2-test.false)) in
    λ a b. (
      (λ u. ⊎_elim (λ l. inl l) (λ r. inr (r.0, subst (λ (xs : List _). Contains xs b) all r.1)) ((c.loop-reference-2.invariant.uses a b).0 ((c.drop_unused.ensures.same a b).0 u))),
      (λ p. (c.drop_unused.ensures.same a b).1 ((c.loop-reference-2.invariant.uses a b).1 (⊎_elim (λ l. inl l) (λ r. inr (r.0, subst (λ (xs : List _). Contains xs b) (sym all) r.1)) p))),
    )
