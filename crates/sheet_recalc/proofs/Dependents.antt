-- A node that does not depend on the changed name costs nothing: a change costs as much as the nodes that depend on it.
use Rattle.std.{proofs.Common.{◌≡◌, ℕ, zero, suc, ◌+◌, inl, inr, Bool, true, false, List, [], ◌∷◌, length, filter, Option, Some, None, refl, sym, ap, ◌∙◌, arith, ⊎_elim}, specs.Str.{bytes_eq}, specs.Map.{keys_of}, specs.Option.{option_map_or}, specs.List.{Contains, IsDistinct, list_any, sum_by}}
use Rattle.std.{proofs.lemmas.Bool.{cond-false, false_from_ne_true, false≢true}, proofs.lemmas.List.Sums.{sum_by-cons, sum_by_push}, proofs.lemmas.Map.Views.{lookup-from_Contains, list_any-from_Contains}}
use Rattle.{apl_expr.specs.Trees.{Tree}, index_region.{specs.declared.delta.Delta.{Delta}, specs.declared.delta.Delta.TheVariants.{Same}}}
use Rattle.formula_core.{specs.Meaning.{names_in}, specs.Plans.{tree_cost, node_cost_at}, specs.Tables.{subtrees}, proofs.Alike.{unchanged_costs_nothing, unchanged_tree_costs_nothing}, proofs.Rooted.{before_root, root_last}}
use Rattle.dep_order.proofs.Following.{contains_cases, contains_none}
use Rattle.sheet_recalc.{specs.Names.{Names, Binding, Data, Formula, binding}, specs.Costs.{origin_delta, delta_by, names_change, delta_at, sheet_change, binding_cost, formulas_cost, AreAllThatReach, has_any, node_depends, dependent_cost, dependents_cost, changed_name, own_delta}}
use Rattle.sheet_recalc.{specs.Locality.{IsApartFrom, CostsNothingWhereUnreached}, proofs.NameEquality.{names_equal, equal-true}, proofs.Keeping.{distinct_once}, proofs.Locality.{refers_apart}, proofs.Sums.{at_name, sum_found}}
use Rattle.formula_core.specs.Changes as formula

-- a node in which no name changed costs nothing
node_unchanged : (t : Tree) (c : formula.NamesChange) → ((x : List ℕ) → Contains (names_in t) x → c.delta x ≡ Same) → formula.cost_at c t ≡ 0
node_unchanged t c h =
    let nothing = unchanged_tree_costs_nothing t c h in
    let parts : tree_cost false c t ≡ sum_by (formula.cost_at c) (before_root t) + formula.cost_at c t = ap (sum_by (formula.cost_at c)) (root_last t) ∙ sum_by_push (formula.cost_at c) (before_root t) t in
    omega (arith, nothing, parts)

-- where one of these passes a test, some one does
any_of : {A : Type 0} (test : A → Bool) (xs : List A) (x : A) → Contains xs x → test x ≡ true → list_any test xs ≡ true
any_of test [] x c h = absurd (contains_none x c)
any_of test (y ∷ ys) x c h = by (test y) refl (any_of test ys x)
  where
    by : (t : Bool) → test y ≡ t → (Contains ys x → test x ≡ true → list_any test ys ≡ true) → list_any test (y ∷ ys) ≡ true
    by true is rest = rw is refl
    by false is rest = rw is (rest (⊎_elim (λ e. absurd (false≢true (sym is ∙ (ap test (sym e) ∙ h)))) (λ r. r) (contains_cases y ys x c)) h)

-- a sum without entries that count nothing
sum_filtered : {A : Type 0} (f : A → ℕ) (test : A → Bool) → ((x : A) → test x ≡ false → f x ≡ 0) → (xs : List A) → sum_by f (filter test xs) ≡ sum_by f xs
sum_filtered f test nothing [] = refl
sum_filtered f test nothing (x ∷ xs) = by (test x) refl (sum_filtered f test nothing xs)
  where
    by : (t : Bool) → test x ≡ t → sum_by f (filter test xs) ≡ sum_by f xs → sum_by f (filter test (x ∷ xs)) ≡ sum_by f (x ∷ xs)
    by true is rest = rw is (sum_by-cons f x (filter test xs) ∙ (ap (λ n. f x + n) rest ∙ sym (sum_by-cons f x xs)))
    by false is rest =
        let none = nothing x is in
        let first = sum_by-cons f x xs in
        rw is (omega (arith, none, first, rest))

-- a sum of equal terms
sum_same : {A : Type 0} (f g : A → ℕ) (xs : List A) → ((x : A) → f x ≡ g x) → sum_by f xs ≡ sum_by g xs
sum_same f g [] same = refl
sum_same f g (x ∷ xs) same =
    let here = same x in
    let rest = sum_same f g xs same in
    let a = sum_by-cons f x xs in
    let b = sum_by-cons g x xs in
    omega (arith, here, rest, a, b)

module _ (old new : Names) (name : List ℕ) (own : Delta) where
  abbrev c : formula.NamesChange
  c = sheet_change old new name own

  not_named : (q : List ℕ) → IsApartFrom new name q → bytes_eq q name ≡ false
  not_named q apart = false_from_ne_true (bytes_eq q name) (λ e. apart.0 (equal-true q name e))

  apart_by : (d : List ℕ → Delta) (q : List ℕ) (b : Option Binding) → binding new q ≡ b → IsApartFrom new name q → ((x : List ℕ) → IsApartFrom new name x → d x ≡ Same) → delta_by q b (names_change old new d) ≡ Same
  apart_by d q None is apart same = refl
  apart_by d q (Some (Data a)) is apart same = refl
  apart_by d q (Some (Formula t)) is apart same =
      ap (origin_delta q) (unchanged_costs_nothing t (names_change old new d) (λ x o. same x (refers_apart new name q x apart (t, is, o)))).0

  apart_at : (d : ℕ) (q : List ℕ) → IsApartFrom new name q → delta_at d old new name own q ≡ Same
  apart_at zero q apart = cond-false _ _ _ (not_named q apart)
  apart_at (suc d) q apart = cond-false _ _ _ (not_named q apart) ∙ apart_by (delta_at d old new name own) q (binding new q) refl apart (apart_at d)

  -- nothing changed of a name that is apart
  apart_same : (q : List ℕ) → IsApartFrom new name q → c.delta q ≡ Same
  apart_same q apart = apart_at (length new) q apart

  pub apart_costs_nothing : (t : Tree) → ((x : List ℕ) → Contains (names_in t) x → IsApartFrom new name x) → formula.cost_at c t ≡ 0
  apart_costs_nothing t apart = node_unchanged t c (λ x o. apart_same x (apart x o))

  -- `found` are the name and all that reach it
  module _ (found : List (List ℕ)) (all : AreAllThatReach new name found) where
    outside : (q : List ℕ) → (Contains found q → ⊥) → IsApartFrom new name q
    outside q none = ((λ e. none ((all.exact q).1 (inl e))), (λ r. none ((all.exact q).1 (inr r))))

    -- a node in which none of these stands costs nothing
    none_stands : (t : Tree) → has_any found t ≡ false → formula.cost_at c t ≡ 0
    none_stands t none = apart_costs_nothing t
        (λ x o. outside x (λ f. false≢true (sym none ∙ any_of (λ y. list_any (bytes_eq y) found) (names_in t) x o (list_any-from_Contains names_equal x found f))))

    independent : (is_new : Bool) (t : Tree) → node_depends is_new found t ≡ false → node_cost_at is_new c t ≡ 0
    independent true t none = absurd (false≢true (sym none))
    independent false t none = none_stands t none

    -- the dependent nodes cost as much as all nodes
    at_binding : (q : List ℕ) (b : Binding) → dependent_cost name c found (q, b) ≡ binding_cost name c (q, b)
    at_binding q (Data a) = refl
    at_binding q (Formula t) = sum_filtered (node_cost_at (bytes_eq q name) c) (node_depends (bytes_eq q name) found) (independent (bytes_eq q name)) (subtrees t)

    at_option : (q : List ℕ) (b : Option Binding) → option_map_or (λ d. binding_cost name c (q, d)) b 0 ≡ option_map_or (λ d. dependent_cost name c found (q, d)) b 0
    at_option q None = refl
    at_option q (Some b) = sym (at_binding q b)

    outside_nothing : (q : List ℕ) (b : Binding) → binding new q ≡ Some b → (Contains found q → ⊥) → binding_cost name c (q, b) ≡ 0
    outside_nothing q (Data a) is none = refl
    outside_nothing q (Formula t) is none =
        ap (λ is_new. tree_cost is_new c t) (not_named q (outside q none))
        ∙ unchanged_tree_costs_nothing t c (λ x o. apart_same x (refers_apart new name q x (outside q none) (t, is, o)))

    pub cost_of_dependents : IsDistinct bytes_eq (keys_of new) → formulas_cost name c new ≡ dependents_cost name c new found
    cost_of_dependents distinct =
        sum_found (binding_cost name c) new found distinct (distinct_once found all.once)
        (λ q b stands none. outside_nothing q b (lookup-from_Contains names_equal q b new distinct stands) none)
        ∙ sum_same (at_name (binding_cost name c) new) (λ q. option_map_or (λ b. dependent_cost name c found (q, b)) (binding new q) 0) found
        (λ q. at_option q (binding new q))

pub costs_nothing_unreached : CostsNothingWhereUnreached
costs_nothing_unreached old new change t apart = apart_costs_nothing old new (changed_name change) (own_delta change new) t apart
