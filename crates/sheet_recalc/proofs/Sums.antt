-- The cost of a change is its cost at the found names; and counts that stop at the greatest number.
use Rattle.std.{proofs.Common.{◌≡◌, ℕ, ◌+◌, Bool, true, false, List, [], ◌∷◌, Some, refl, sym, ap, ◌∙◌, subst, arith, ⊎_elim, if◌then◌else◌}, specs.Str.{bytes_eq}, specs.Map.{lookup, keys_of}, specs.Option.{option_map_or}, specs.List.{Contains, IsDistinct, AllByRecursion, sum_by}}
use Rattle.std.{proofs.lemmas.Bool.{cond-false, false≢true}, proofs.lemmas.List.Sums.{sum_by-cons}, proofs.lemmas.Map.Views.{lookup-from_Contains}}
use Rattle.{index_region.specs.declared.delta.Delta.TheVariants.{Same}, formula_core.{specs.Plans.{tree_cost}, proofs.Alike.{unchanged_tree_costs_nothing}}}
use Rattle.dep_order.{specs.Follows.{Follows, IsOnce}, proofs.Following.{contains_here, contains_there, contains_cases, contains_none}}
use Rattle.sheet_recalc.{specs.Names.{Names, Binding, Data, Formula, binding, Refers}, specs.Costs.{binding_cost, formulas_cost}, proofs.NameEquality.{names_equal, equal-true, equal-same}, proofs.Deltas.{apart_from_found, not_named}}
use Rattle.formula_core.specs.Changes as formula

-- a number at one name alone
abbrev only_at : List ℕ → ℕ → List ℕ → ℕ
only_at k m q = if bytes_eq q k then m else 0

-- adds up to nothing over names among which that one does not stand
sum_apart : (k : List ℕ) (m : ℕ) (found : List (List ℕ)) → (Contains found k → ⊥) → sum_by (only_at k m) found ≡ 0
sum_apart k m [] none = refl
sum_apart k m (x ∷ xs) none = sum_by-cons (only_at k m) x xs ∙ by (bytes_eq x k) refl (sum_apart k m xs (λ c. none (contains_there x xs k c)))
  where
    by : (t : Bool) → bytes_eq x k ≡ t → sum_by (only_at k m) xs ≡ 0 → (if t then m else 0) + sum_by (only_at k m) xs ≡ 0
    by true is rest = absurd (none (subst (λ z. Contains (x ∷ xs) z) (equal-true x k is) (contains_here x xs)))
    by false is rest = omega (arith, rest)

-- and to the number over names among which it stands once
sum_once : (k : List ℕ) (m : ℕ) (found : List (List ℕ)) → IsOnce found → ((Contains found k → ⊥) → m ≡ 0) → sum_by (only_at k m) found ≡ m
sum_once k m [] once none = sym (none (λ c. contains_none k c))
sum_once k m (x ∷ xs) once none = sum_by-cons (only_at k m) x xs ∙ by (bytes_eq x k) refl (λ h. sum_once k m xs once.1 h)
  where
    by : (t : Bool) → bytes_eq x k ≡ t → (((Contains xs k → ⊥) → m ≡ 0) → sum_by (only_at k m) xs ≡ m) → (if t then m else 0) + sum_by (only_at k m) xs ≡ m
    by true is rest =
        let apart = sum_apart k m xs (λ c. once.0 (subst (λ z. Contains xs z) (sym (equal-true x k is)) c)) in
        omega (arith, apart)
    by false is rest =
        let others = rest (λ c. none (λ d. ⊎_elim (λ e. false≢true (sym is ∙ equal-same x k (sym e))) c (contains_cases x xs k d))) in
        omega (arith, others)

sum_plus : {A : Type 0} (f g h : A → ℕ) (xs : List A) → ((x : A) → f x ≡ g x + h x) → sum_by f xs ≡ sum_by g xs + sum_by h xs
sum_plus f g h [] e = refl
sum_plus f g h (x ∷ xs) e =
    let here = e x in
    let rest = sum_plus f g h xs e in
    let a = sum_by-cons f x xs in
    let b = sum_by-cons g x xs in
    let c = sum_by-cons h x xs in
    omega (arith, here, rest, a, b, c)

sum_nothing : {A : Type 0} (f : A → ℕ) (xs : List A) → ((x : A) → f x ≡ 0) → sum_by f xs ≡ 0
sum_nothing f [] e = refl
sum_nothing f (x ∷ xs) e =
    let here = e x in
    let rest = sum_nothing f xs e in
    let a = sum_by-cons f x xs in
    omega (arith, here, rest, a)

-- the count of the entry of a name, 0 for an absent name
module _ {X : Type 0} (f : List ℕ × X → ℕ) where
  abbrev pub at_name : List (List ℕ × X) → List ℕ → ℕ
  at_name es q = option_map_or (λ x. f (q, x)) (lookup (bytes_eq q) es) 0

  at_absent : (es : List (List ℕ × X)) (k : List ℕ) → AllByRecursion (λ y. bytes_eq k y ≡ false) (keys_of es) → at_name es k ≡ 0
  at_absent [] k none = refl
  at_absent (e ∷ es) k none = ap (λ o. option_map_or (λ x. f (k, x)) o 0) (cond-false _ _ _ none.0) ∙ at_absent es k none.1

  at_first : (k : List ℕ) (x : X) (es : List (List ℕ × X)) → AllByRecursion (λ y. bytes_eq k y ≡ false) (keys_of es)
      → (q : List ℕ) → at_name ((k, x) ∷ es) q ≡ only_at k (f (k, x)) q + at_name es q
  at_first k x es none q = by (bytes_eq q k) refl
    where
      by : (t : Bool) → bytes_eq q k ≡ t → option_map_or (λ y. f (q, y)) (if t then Some x else lookup (bytes_eq q) es) 0 ≡ (if t then f (k, x) else 0) + at_name es q
      by true is =
          let same = equal-true q k is in
          let here : f (q, x) ≡ f (k, x) = ap (λ z. f (z, x)) same in
          let apart : at_name es q ≡ 0 = at_absent es q (subst (λ z. AllByRecursion (λ y. bytes_eq z y ≡ false) (keys_of es)) (sym same) none) in
          omega (arith, here, apart)
      by false is = omega arith

  -- a sum over entries is the sum over the names outside which each entry counts nothing
  pub sum_found : (es : List (List ℕ × X)) (found : List (List ℕ)) → IsDistinct bytes_eq (keys_of es) → IsOnce found
      → ((q : List ℕ) (x : X) → Contains es (q, x) → (Contains found q → ⊥) → f (q, x) ≡ 0) → sum_by f es ≡ sum_by (at_name es) found
  unfolding IsDistinct
  sum_found [] found distinct once apart = sym (sum_nothing (at_name []) found (λ q. refl))
  sum_found ((k, x) ∷ es) found distinct once apart =
      let first = sum_by-cons f (k, x) es in
      let rest = sum_found es found distinct.1 once (λ q y c none. apart q y (contains_there (k, x) es (q, y) c) none) in
      let parts = sum_plus (at_name ((k, x) ∷ es)) (only_at k (f (k, x))) (at_name es) found (at_first k x es distinct.0) in
      let here = sum_once k (f (k, x)) found once (apart k x (contains_here (k, x) es)) in
      omega (arith, first, rest, parts, here)

-- `found` are the name and all that reach it
module _ (new : Names) (name : List ℕ) (c : formula.NamesChange) (found : List (List ℕ)) (closed : Follows (λ a b. Refers new b a) (λ x. ⊥) found) (named : Contains found name)
    (unreached : (q : List ℕ) → (Contains found q → ⊥) → c.delta q ≡ Same) where
  -- a name that is not found costs nothing
  pub costs_nothing : (q : List ℕ) (b : Binding) → binding new q ≡ Some b → (Contains found q → ⊥) → binding_cost name c (q, b) ≡ 0
  costs_nothing q (Data a) is none = refl
  costs_nothing q (Formula t) is none =
      ap (λ is_new. tree_cost is_new c t) (not_named new name found closed named q none)
      ∙ unchanged_tree_costs_nothing t c (λ x o. unreached x (apart_from_found new name found closed named q x none (t, is, o)))

  -- all names cost as much as the found ones
  pub cost_found : IsDistinct bytes_eq (keys_of new) → IsOnce found
      → formulas_cost name c new ≡ sum_by (λ q. option_map_or (λ b. binding_cost name c (q, b)) (binding new q) 0) found
  cost_found distinct once = sum_found (binding_cost name c) new found distinct once
      (λ q b stands none. costs_nothing q b (lookup-from_Contains names_equal q b new distinct stands) none)
