use Rattle.std.{proofs.Common.{◌≡◌, ◌∙◌, sym, subst, inl, inr, ⊎_elim, List, ℕ, Some}, specs.List.{Contains}}
use Rattle.sheet_recalc.{specs.Names.{referred, referred_by}, specs.Entries.{names_of, binding_of}, proofs.NameEquality.{equal-true, lists-true}, proofs.Rebound.{table_after, table_stays, used_still}}
use Rattle.sheet_recalc.proofs.commit.refer_anew.Goals as goal

pub refer-requires-clause-exact : goal.refer-requires-clause-exact
refer-requires-clause-exact c = equal-true

pub returns-clause-tells : goal.returns-clause-tells
returns-clause-tells c =
    let old = names_of c.args.entries.now.entries in
    let to = λ (xs ys : List (List ℕ)) (is : xs ≡ ys) (b : List ℕ) (h : Contains xs b). subst (λ (zs : List (List ℕ)). Contains zs b) is h in
    let before = c.references_of-before.result.now in
    let after = c.references-references.result.now in
    table_after old c.args.name (Some (binding_of c.args.entry.now)) c.args.users.now.entries c.refer.new.users.entries c.requires.tells
    (λ x y. (
      (λ u. ⊎_elim (λ l. inl (l.0, λ e h. l.1 e (to (referred_by old c.args.name) before (sym c.references_of-before.ensures) y h)))
          (λ r. inr (r.0, to after (referred (binding_of c.args.entry.now)) c.references-references.ensures y r.1)) ((c.refer.ensures.uses x y).0 u)),
      (λ p. (c.refer.ensures.uses x y).1 (⊎_elim (λ l. inl (l.0, λ e h. l.1 e (to before (referred_by old c.args.name) c.references_of-before.ensures y h)))
          (λ r. inr (r.0, to (referred (binding_of c.args.entry.now)) after (sym c.references-references.ensures) y r.1)) p)),
    ))

pub returns-then-eq-clause-tells : goal.returns-then-eq-clause-tells
returns-then-eq-clause-tells c =
    let same = lists-true c.references_of-before.result.now c.references-references.result.now (sym c.eq.ensures ∙ c.if-eq.true) in
    table_stays (names_of c.args.entries.now.entries) c.args.name (binding_of c.args.entry.now) c.args.users.now.entries c.requires.tells
    (sym c.references_of-before.ensures ∙ same ∙ c.references-references.ensures)

pub returns-then-eq-clause-used : goal.returns-then-eq-clause-used
returns-then-eq-clause-used c =
    let same = lists-true c.references_of-before.result.now c.references-references.result.now (sym c.eq.ensures ∙ c.if-eq.true) in
    used_still (names_of c.args.entries.now.entries) c.args.name (binding_of c.args.entry.now) c.args.users.now.entries c.requires.tells
    (sym c.references_of-before.ensures ∙ same ∙ c.references-references.ensures) c.requires.used
