-- The change of each name is one step from the changes of all names; names that the changed name does not reach stay the same.
use Rattle.std.{proofs.Common.{◌≡◌, ℕ, zero, suc, false, List, Option, Some, None, length, refl, sym, ap, ◌∙◌, subst, ⊎_elim, if◌then◌else◌}, specs.Str.{bytes_eq}, specs.List.{Contains}, proofs.lemmas.Bool.{cond-true, cond-false, false_from_ne_true}}
use Rattle.{apl_expr.specs.Trees.{Tree}, index_region.{specs.declared.delta.Delta.{Delta}, specs.declared.delta.Delta.TheVariants.{Same}}}
use Rattle.formula_core.{specs.Meaning.{names_in}, proofs.Alike.{change_alike, unchanged_costs_nothing}}
use Rattle.dep_order.{specs.Follows.{Follows}, proofs.Following.{follows_has}}
use Rattle.sheet_recalc.{specs.Names.{Names, Binding, Data, Formula, binding, Refers}, specs.Costs.{origin_delta, delta_by, names_change, delta_at, name_delta, sheet_change}, proofs.NameEquality.{equal-true, equal-same}, proofs.Scratch.{settles, IsNameOrder}}
use Rattle.formula_core.specs.Changes as formula

-- `found` are the name and all that reach it
module _ (new : Names) (name : List ℕ) (found : List (List ℕ)) (closed : Follows (λ a b. Refers new b a) (λ x. ⊥) found) (named : Contains found name) where
  -- names outside refer to no found name
  pub apart_from_found : (a b : List ℕ) → (Contains found a → ⊥) → Refers new a b → Contains found b → ⊥
  apart_from_found a b none r c = none (⊎_elim (λ l. absurd l) (λ d. d) (follows_has (λ x y. Refers new y x) (λ x. ⊥) found b a closed c r))

  -- and it is not the name
  pub not_named : (q : List ℕ) → (Contains found q → ⊥) → bytes_eq q name ≡ false
  not_named q none = false_from_ne_true (bytes_eq q name) (λ e. none (subst (λ z. Contains found z) (sym (equal-true q name e)) named))

module _ (old new : Names) (name : List ℕ) (own : Delta) where
  -- only the changes of the names in its binding matter
  delta_same : (q : List ℕ) (b : Option Binding) (f g : List ℕ → Delta) → ((t : Tree) (x : List ℕ) → b ≡ Some (Formula t) → Contains (names_in t) x → f x ≡ g x)
      → delta_by q b (names_change old new f) ≡ delta_by q b (names_change old new g)
  delta_same q None f g h = refl
  delta_same q (Some (Data a)) f g h = refl
  delta_same q (Some (Formula t)) f g h =
      ap (origin_delta q) (change_alike t (names_change old new f) (names_change old new g) (λ x o. record { old = refl; new = refl; delta = h t x refl o }))

  delta_absent : (d : ℕ) (q : List ℕ) → binding new q ≡ None → delta_at d old new name own q ≡ (if bytes_eq q name then own else Same)
  delta_absent zero q none = refl
  delta_absent (suc d) q none = ap (λ b. if bytes_eq q name then own else delta_by q b (names_change old new (delta_at d old new name own))) none

  -- the change of a name is one step from the changes of all names
  pub delta_is : (order : List (List ℕ)) → IsNameOrder new order → (q : List ℕ)
      → name_delta old new name own q ≡ (if bytes_eq q name then own else delta_by q (binding new q) (sheet_change old new name own))
  delta_is order o q = settles new order o (λ d. delta_at d old new name own) (λ x f. if bytes_eq x name then own else delta_by x (binding new x) (names_change old new f)) (λ d x. refl)
      (λ x f g h. ap (λ d. if bytes_eq x name then own else d) (delta_same x (binding new x) f g (λ t y is stands. h y (t, is, stands))))
      (λ d e x none. delta_absent d x none ∙ sym (delta_absent e x none)) q

  -- the change of the changed name
  pub delta_own : name_delta old new name own name ≡ own
  delta_own = by (length new)
    where
      by : (d : ℕ) → delta_at d old new name own name ≡ own
      by zero = cond-true _ _ _ (equal-same name name refl)
      by (suc d) = cond-true _ _ _ (equal-same name name refl)

  module _ (found : List (List ℕ)) (closed : Follows (λ a b. Refers new b a) (λ x. ⊥) found) (named : Contains found name) where
    unreached_by : (c : formula.NamesChange) (q : List ℕ) (b : Option Binding) → binding new q ≡ b → (Contains found q → ⊥) → ((x : List ℕ) → (Contains found x → ⊥) → c.delta x ≡ Same) → delta_by q b c ≡ Same
    unreached_by c q None is none same = refl
    unreached_by c q (Some (Data a)) is none same = refl
    unreached_by c q (Some (Formula t)) is none same = ap (origin_delta q) (unchanged_costs_nothing t c (λ x o. same x (apart_from_found new name found closed named q x none (t, is, o)))).0

    unreached_at : (d : ℕ) (q : List ℕ) → (Contains found q → ⊥) → delta_at d old new name own q ≡ Same
    unreached_at zero q none = cond-false _ _ _ (not_named new name found closed named q none)
    unreached_at (suc d) q none = cond-false _ _ _ (not_named new name found closed named q none)
        ∙ unreached_by (names_change old new (delta_at d old new name own)) q (binding new q) refl none (unreached_at d)

    -- names outside stay the same
    pub delta_unreached : (q : List ℕ) → (Contains found q → ⊥) → name_delta old new name own q ≡ Same
    delta_unreached q none = unreached_at (length new) q none
