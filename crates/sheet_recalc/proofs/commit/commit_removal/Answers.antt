use Rattle.std.{proofs.Common.{◌≡◌, ◌∙◌, sym, ap, subst, None, List, ℕ, inl, inr, ⊎_elim}, specs.List.{Contains}}
use Rattle.sheet_recalc.{specs.Names.{without, referred_by}, specs.Entries.{names_of}, specs.Live.{IsAdopting, plan_in}, proofs.Live.{adopting_removed}, proofs.Removing.{others, removed_others, names_of_others}, proofs.Rebound.{table_after}}
use Rattle.sheet_recalc.proofs.commit.commit_removal.Goals as goal

pub adopt_all-requires : goal.adopt_all-requires
adopt_all-requires c =
    let es = c.args.entries.now.entries in
    let left : c.shift_remove-removed.new.self.entries ≡ others c.args.name es = c.shift_remove-removed.ensures.entries ∙ removed_others c.args.name es c.len-unique.ensures.unique in
    let names = ap names_of left ∙ names_of_others c.args.name es in
    subst (λ ns. IsAdopting ns c.shift_remove-removed.new.self.entries (plan_in c.args.found.now.entries)) (sym names)
    (subst (λ fs. IsAdopting (without (names_of es) c.args.name) fs (plan_in c.args.found.now.entries)) (sym left) (adopting_removed es c.args.name (plan_in c.args.found.now.entries) c.requires.planned))

pub returns-clause-names : goal.returns-clause-names
returns-clause-names c =
    let es = c.args.entries.now.entries in
    c.adopt_all.ensures.names ∙ (ap names_of (c.shift_remove-removed.ensures.entries ∙ removed_others c.args.name es c.len-unique.ensures.unique) ∙ names_of_others c.args.name es)

pub returns-clause-tells : goal.returns-clause-tells
returns-clause-tells c =
    let old = names_of c.args.entries.now.entries in
    let to = λ (xs ys : List (List ℕ)) (is : xs ≡ ys) (b : List ℕ) (h : Contains xs b). subst (λ (zs : List (List ℕ)). Contains zs b) is h in
    table_after old c.args.name None c.args.users.now.entries c.refer.new.users.entries c.requires.tells
    (λ x y. (
      (λ u. ⊎_elim (λ l. inl (l.0, λ e h. l.1 e (to (referred_by old c.args.name) c.references_of.result.now (sym c.references_of.ensures) y h)))
          (λ r. inr r) ((c.refer.ensures.uses x y).0 u)),
      (λ p. (c.refer.ensures.uses x y).1 (⊎_elim (λ l. inl (l.0, λ e h. l.1 e (to c.references_of.result.now (referred_by old c.args.name) c.references_of.ensures y h)))
          (λ r. inr r) p)),
    ))
