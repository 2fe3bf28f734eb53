use Rattle.std.{proofs.Common.{◌≡◌, ◌∙◌, ◌+◌, List, [], ◌∷◌, drop, drop-cons, add-one, suc, sym, ap, subst, arith}, proofs.lemmas.List.{drop_all}}
use Rattle.dep_order.specs.Users.{HasNoEmptyBut}
use Rattle.dep_order.proofs.users.drop_unused.Goals as goal

pub loop-reference-preserved : goal.loop-reference-preserved
loop-reference-preserved g c =
    let xs = c.args.references.now in
    let i = c.loop-reference.reference-index in
    let x = c.reference-item.result in
    let next : drop i xs ≡ x ∷ drop (i + 1) xs = drop-cons xs i x c.loop-reference-test.true ∙ (ap (λ y. y ∷ drop (suc i) xs) (sym c.reference-item.is) ∙ ap (λ n. x ∷ drop n xs) (sym (add-one i))) in
    record {
      same = λ a b. (
        (λ u. (c.loop-reference.invariant.same a b).0 ((c.drop_if_unused.ensures.same a b).0 u)),
        (λ u. (c.drop_if_unused.ensures.same a b).1 ((c.loop-reference.invariant.same a b).1 u)),
      );
      used = λ used. c.drop_if_unused.ensures.used (drop (i + 1) xs) (subst (λ (ys : List _). HasNoEmptyBut g.N.PartialEq.eq c.loop-reference.users.entries ys) next (c.loop-reference.invariant.used used));
    }

pub returns-clause-used : goal.returns-clause-used
returns-clause-used g c = λ used.
    let none : drop c.loop-reference.reference-index c.args.references.now ≡ [] = drop_all c.loop-reference.reference-index c.args.references.now (omega (arith, c.loop-reference-test.false)) in
    subst (λ (ys : List _). HasNoEmptyBut g.N.PartialEq.eq c.loop-reference.users.entries ys) none (c.loop-reference.invariant.used used)
