-- In an acyclic sheet the value of each name follows from the values of the names in its formula: no other assignment satisfies the sheet.
use Rattle.std.{proofs.Common.{◌≡◌, ℕ, zero, suc, ◌<◌, ◌≤◌, List, [], ◌∷◌, length, IsSome, refl, sym, ◌∙◌, subst, arith, ⊎_elim}, specs.List.{Contains}, proofs.lemmas.Map.Steps.{length-le_from_keys}, proofs.lemmas.Map.Views.{Contains-from_any}}
use Rattle.dep_order.{specs.Follows.{IsOnce}, specs.Reachability.{Reaches, IsAcyclic}, proofs.Following.{contains_none, contains_cases}}
use Rattle.arrays_core.specs.Outcomes.{Outcome}
use Rattle.sheet_recalc.{specs.Names.{Names, binding, Refers}, specs.Meaning.{val_at, val, Satisfies, IsSettled, IsOnlySolution}, proofs.NameEquality.{names_equal, equal-true}, proofs.Keeping.{once_distinct}, proofs.Scratch.{shown_same, val_absent, cases_binding}}

module _ (names : Names) where
  -- each refers to the next, and the last is present
  abbrev IsPath : List ℕ → List (List ℕ) → Type 0
  IsPath x [] = IsSome (binding names x)
  IsPath x (y ∷ ys) = Refers names x y × IsPath y ys

  -- no path from a name has more names than this
  abbrev IsWithin : ℕ → List ℕ → Type 0
  IsWithin n x = (ys : List (List ℕ)) → IsPath x ys → length ys < n

  present_of : (x y : List ℕ) → Refers names x y → IsSome (binding names x)
  present_of x y r = subst (λ o. IsSome o) (sym r.1) refl

  path_present : (x : List ℕ) (ys : List (List ℕ)) → IsPath x ys → (q : List ℕ) → Contains (x ∷ ys) q → IsSome (binding names q)
  path_present x [] p q c = ⊎_elim (λ e. subst (λ z. IsSome (binding names z)) (sym e) p) (λ r. absurd (contains_none q r)) (contains_cases x [] q c)
  path_present x (y ∷ ys) p q c = ⊎_elim (λ e. subst (λ z. IsSome (binding names z)) (sym e) (present_of x y p.0)) (λ r. path_present y ys p.1 q r) (contains_cases x (y ∷ ys) q c)

  path_reaches : (x : List ℕ) (ys : List (List ℕ)) → IsPath x ys → (z : List ℕ) → Contains ys z → Reaches (Refers names) x z
  path_reaches x [] p z c = absurd (contains_none z c)
  path_reaches x (y ∷ ys) p z c = ⊎_elim (λ e. ([], subst (λ w. Refers names x w) (sym e) p.0)) (λ r. let rest = path_reaches y ys p.1 z r in (y ∷ rest.0, (p.0, rest.1))) (contains_cases y ys z c)

  -- a present name ends its own path
  some_path : (n : ℕ) (x : List ℕ) → IsWithin n x → IsSome (binding names x) → 0 < n
  some_path n x within present = within [] present

  nearer : (n : ℕ) (x y : List ℕ) → IsWithin (suc n) x → Refers names x y → IsWithin n y
  nearer n x y within r ys p = omega (arith, within (y ∷ ys) (r, p))

  module _ (acyclic : IsAcyclic (Refers names)) where
    path_once : (x : List ℕ) (ys : List (List ℕ)) → IsPath x ys → IsOnce (x ∷ ys)
    path_once x [] p = ((λ c. contains_none x c), tt)
    path_once x (y ∷ ys) p = ((λ c. acyclic x (path_reaches x (y ∷ ys) p x c)), path_once y ys p.1)

    -- a path has at most as many names as the sheet
    within_names : (x : List ℕ) → IsWithin (length names) x
    within_names x ys p =
        let few = length-le_from_keys names_equal (x ∷ ys) names (once_distinct (x ∷ ys) (path_once x ys p)) (λ q h. path_present x ys p q (Contains-from_any equal-true q (x ∷ ys) h)) in
        omega (arith, few)

    -- a property holds of every name if it passes from the references of a name to the name
    module _ (P : List ℕ → Type 0) (step : (x : List ℕ) → ((y : List ℕ) → Refers names x y → P y) → P x) where
      by_paths : (n : ℕ) (x : List ℕ) → IsWithin n x → P x
      by_paths zero x within = step x (λ y r. let some = some_path zero x within (present_of x y r) in absurd (omega (arith, some)))
      by_paths (suc n) x within = step x (λ y r. by_paths n y (nearer n x y within r))

      pub by_references : (x : List ℕ) → P x
      by_references x = by_paths (length names) x (within_names x)

    -- two assignments that satisfy the sheet agree
    pub solutions_agree : (f g : List ℕ → Outcome) → Satisfies names f → Satisfies names g → (q : List ℕ) → f q ≡ g q
    solutions_agree f g of_f of_g = by_references (λ q. f q ≡ g q)
        (λ q rest. of_f q ∙ (shown_same q (binding names q) f g (λ t x is stands. rest x (t, is, stands)) ∙ sym (of_g q)))

    -- at a depth of at least the longest path, the depth does not matter
    deep_enough : (n : ℕ) (x : List ℕ) → IsWithin n x → (d e : ℕ) → n ≤ d → n ≤ e → val_at d names x ≡ val_at e names x
    deep_enough zero x within d e p q = cases_binding names (val_at d names x ≡ val_at e names x) x
        (λ none. val_absent names d x none ∙ sym (val_absent names e x none))
        (λ present. let some = some_path zero x within present in absurd (omega (arith, some)))
    deep_enough (suc n) x within zero e p q = absurd (omega (arith, p))
    deep_enough (suc n) x within (suc d) zero p q = absurd (omega (arith, q))
    deep_enough (suc n) x within (suc d) (suc e) p q = shown_same x (binding names x) (val_at d names) (val_at e names)
        (λ t y is stands. deep_enough n y (nearer n x y within (t, is, stands)) d e (omega (arith, p)) (omega (arith, q)))

    pub acyclic_settled : IsSettled names
    acyclic_settled q = deep_enough (length names) q (within_names q) (length names) (suc (length names)) (omega arith) (omega arith)

    pub only_solution : IsOnlySolution names
    only_solution = (acyclic_settled, λ f of_f. solutions_agree f (val names) of_f acyclic_settled)
