-- How the names keep an order when a name is rebound, and the parts that stay the same.
use Rattle.std.{proofs.Common.{◌≡◌, ◌≢◌, ℕ, zero, suc, ◌<◌, ◌≤◌, ◌⊎◌, inl, inr, Bool, true, false, not, List, [], ◌∷◌, ◌++◌, length, slice_index_or, filter, None, is_some, IsSome, refl, sym, ap, ◌∙◌, subst, arith, ⊎_elim}, specs.Str.{bytes_eq}, specs.List.{Contains, IsDistinct, list_any, AllByRecursion}}
use Rattle.std.{proofs.lemmas.Bool.{false≢true}, proofs.lemmas.List.{get_or_default}, proofs.lemmas.Map.Steps.{length-le_from_keys}, proofs.lemmas.Map.Views.{Contains-from_any, list_any-from_Contains}, proofs.lemmas.List.Elements.{Contains-append_left, Contains-append_right, Contains-append_cases}, specs.Prelude.{Vec}}
use Rattle.dep_order.{specs.Reachability.{Chain}, specs.Follows.{Follows, IsOnce}, specs.Users.{Uses, IsWithin}, proofs.Following.{contains_here, contains_there, contains_one, contains_cases, contains_none, follows_append, follows_at, follows_has, follows_kept, follows_backward, backward, backward_has, backward_only}}
use Rattle.sheet_recalc.{specs.Names.{Names, binding, Refers}, specs.Meaning.{shown_beside, val}, specs.NameOrder.{IsKeptOrder}, specs.Live.{TellsUsers}, proofs.NameEquality.{names_equal, equal-true, equal-same}, proofs.Scratch.{shown_same, val_is, val_absent, cases_binding, front, IsNameOrder}}

-- a name is among these, or not
pub cases_among : (P : Type 0) (names : List (List ℕ)) (q : List ℕ) → (Contains names q → P) → ((Contains names q → ⊥) → P) → P
cases_among P names q among apart = by (list_any (bytes_eq q) names) refl
  where
    by : (t : Bool) → list_any (bytes_eq q) names ≡ t → P
    by true is = among (Contains-from_any equal-true q names is)
    by false is = apart (λ c. false≢true (sym is ∙ list_any-from_Contains names_equal q names c))

-- a name is the one that is bound, or another
pub cases_name : (P : Type 0) (name q : List ℕ) → (q ≡ name → P) → (q ≢ name → P) → P
cases_name P name q same apart = by (bytes_eq q name) refl
  where
    by : (t : Bool) → bytes_eq q name ≡ t → P
    by true e = same (equal-true q name e)
    by false e = apart (λ is. false≢true (sym e ∙ equal-same q name is))

-- none of these is equal to one after it
pub once_distinct : (xs : List (List ℕ)) → IsOnce xs → IsDistinct bytes_eq xs
unfolding IsDistinct
once_distinct [] once = tt
once_distinct (x ∷ xs) once = (apart xs once.0, once_distinct xs once.1)
  where
    apart : (ys : List (List ℕ)) → (Contains ys x → ⊥) → AllByRecursion (λ y. bytes_eq x y ≡ false) ys
    apart [] none = tt
    apart (y ∷ ys) none = (by (bytes_eq x y) refl, apart ys (λ c. none (contains_there y ys x c)))
      where
        by : (t : Bool) → bytes_eq x y ≡ t → bytes_eq x y ≡ false
        by true is = absurd (none (subst (λ z. Contains (y ∷ ys) z) (sym (equal-true x y is)) (contains_here y ys)))
        by false is = is

pub distinct_once : (xs : List (List ℕ)) → IsDistinct bytes_eq xs → IsOnce xs
unfolding IsDistinct
distinct_once [] d = tt
distinct_once (x ∷ xs) d = (apart xs d.0, distinct_once xs d.1)
  where
    apart : (ys : List (List ℕ)) → AllByRecursion (λ y. bytes_eq x y ≡ false) ys → Contains ys x → ⊥
    apart [] h c = contains_none x c
    apart (y ∷ ys) h c = ⊎_elim (λ e. false≢true (sym h.0 ∙ equal-same x y e)) (λ r. apart ys h.1 r) (contains_cases y ys x c)

pub once_append : {A : Type 0} (xs ys : List A) → IsOnce xs → IsOnce ys → ((x : A) → Contains xs x → Contains ys x → ⊥) → IsOnce (xs ++ ys)
once_append [] ys a b apart = b
once_append (x ∷ xs) ys a b apart = (
  (λ c. ⊎_elim (λ l. a.0 l) (λ r. apart x (contains_here x xs) r) (Contains-append_cases xs ys x c)),
  once_append xs ys a.1 b (λ y c d. apart y (contains_there x xs y c) d),
)

-- the last of these is none of those before it
pub once_front : {A : Type 0} (xs : List A) (x : A) → IsOnce (xs ++ x ∷ []) → (Contains xs x → ⊥) × IsOnce xs
once_front [] x a = ((λ c. contains_none x c), tt)
once_front (y ∷ ys) x a =
    let rest = once_front ys x a.1 in (
      (λ c. ⊎_elim (λ e. a.0 (Contains-append_right ys (x ∷ []) y (subst (λ z. Contains (z ∷ []) y) (sym e) (contains_here y [])))) rest.0 (contains_cases y ys x c)),
      ((λ c. a.0 (Contains-append_left ys (x ∷ []) y c)), rest.1),
    )

pub once_backward : {A : Type 0} (xs : List A) → IsOnce xs → IsOnce (backward xs)
once_backward [] a = tt
once_backward (x ∷ xs) a = once_append (backward xs) (x ∷ []) (once_backward xs a.1) (λ c. contains_none x c, tt)
    (λ y c d. a.0 (subst (λ z. Contains xs z) (contains_one x y d) (backward_only xs y c)))

module _ {A : Type 0} (keep : A → Bool) where
  pub kept_has : (xs : List A) (y : A) → Contains xs y → keep y ≡ true → Contains (filter keep xs) y
  kept_has [] y c k = absurd (contains_none y c)
  kept_has (x ∷ xs) y c k = by (keep x) refl (λ r. kept_has xs y r k)
    where
      by : (t : Bool) → keep x ≡ t → (Contains xs y → Contains (filter keep xs) y) → Contains (filter keep (x ∷ xs)) y
      by true is rest = rw is (⊎_elim (λ e. subst (λ z. Contains (x ∷ filter keep xs) z) (sym e) (contains_here x (filter keep xs))) (λ r. contains_there x (filter keep xs) y (rest r)) (contains_cases x xs y c))
      by false is rest = rw is (⊎_elim (λ e. absurd (false≢true (sym is ∙ (ap keep (sym e) ∙ k)))) (λ r. rest r) (contains_cases x xs y c))

  pub kept_only : (xs : List A) (y : A) → Contains (filter keep xs) y → Contains xs y × (keep y ≡ true)
  kept_only [] y c = absurd (contains_none y c)
  kept_only (x ∷ xs) y c = by (keep x) refl c (kept_only xs y)
    where
      by : (t : Bool) → keep x ≡ t → Contains (filter keep (x ∷ xs)) y → (Contains (filter keep xs) y → Contains xs y × (keep y ≡ true)) → Contains (x ∷ xs) y × (keep y ≡ true)
      by true is c rest =
          let d : Contains (x ∷ filter keep xs) y = rw is at c in
          ⊎_elim (λ e. (subst (λ z. Contains (x ∷ xs) z) (sym e) (contains_here x xs), ap keep e ∙ is)) (λ r. let o = rest r in (contains_there x xs y o.0, o.1)) (contains_cases x (filter keep xs) y d)
      by false is c rest =
          let d : Contains (filter keep xs) y = rw is at c in
          let o = rest d in (contains_there x xs y o.0, o.1)

  pub once_kept : (xs : List A) → IsOnce xs → IsOnce (filter keep xs)
  once_kept [] a = tt
  once_kept (x ∷ xs) a = by (keep x) refl (once_kept xs a.1)
    where
      by : (t : Bool) → keep x ≡ t → IsOnce (filter keep xs) → IsOnce (filter keep (x ∷ xs))
      by true is rest = rw is (λ c. a.0 (kept_only xs x c).0, rest)
      by false is rest = rw is rest

-- a kept order is an order in which the names can be worked out
pub name_order : (names : Names) (order : List (List ℕ)) → IsKeptOrder names order → IsNameOrder names order
name_order names order o = record {
  all = o.all;
  after = λ i b h r present. ⊎_elim (λ l. absurd l) (λ c. c) (follows_at (λ a b. Refers names a b × IsSome (binding names b)) (λ x. ⊥) [] order i b o.follows h (r, present));
  short = length-le_from_keys names_equal order names (once_distinct order o.once) (λ q h. o.present q (Contains-from_any equal-true q order h));
}

-- no chain of references is longer than the names are many
module _ {S : Type 0} (names : Names) (table : List (List ℕ × Vec (List ℕ) S)) (tells : TellsUsers names table) (order : List (List ℕ)) (o : IsNameOrder names order) where
  falls : (i : ℕ) (via : List (List ℕ)) (b : List ℕ) → i < length order → Chain (Uses bytes_eq table) (slice_index_or order i []) via b → length via ≤ i
  falls i [] b h c = omega arith
  falls i (x ∷ via) b h c =
      let k = front [] order i x h (o.after i x h ((tells (slice_index_or order i []) x).0 c.0) (present_of x via b c.1)) in
      let rest = falls k.0 via b (omega (arith, k.1)) (subst (λ y. Chain (Uses bytes_eq table) y via b) (sym k.2) c.1) in
      omega (arith, rest, k.1)
    where
      present_of : (a : List ℕ) (via : List (List ℕ)) (b : List ℕ) → Chain (Uses bytes_eq table) a via b → IsSome (binding names a)
      present_of a [] b c = subst (λ s. IsSome s) (sym ((tells a b).0 c).1) refl
      present_of a (y ∷ ys) b c = subst (λ s. IsSome s) (sym ((tells a y).0 c.0).1) refl

  first_present : (a : List ℕ) (via : List (List ℕ)) (b : List ℕ) → Chain (Uses bytes_eq table) a via b → IsSome (binding names a)
  first_present a [] b c = subst (λ s. IsSome s) (sym ((tells a b).0 c).1) refl
  first_present a (y ∷ ys) b c = subst (λ s. IsSome s) (sym ((tells a y).0 c.0).1) refl

  pub within : (b : List ℕ) → IsWithin bytes_eq table (length names) b
  within b a via c =
      let at = o.all a (first_present a via b c) in
      let is = get_or_default order at.0 [] a at.1 ∙ at.2 in
      let low = falls at.0 via b at.1 (subst (λ y. Chain (Uses bytes_eq table) y via b) (sym is) c) in
      omega (arith, low, at.1, o.short)

-- a name is rebound or removed; `found` are the name and all that reach it, each after those that refer to it
module _ (old new : Names) (name : List ℕ) (same : (q : List ℕ) → q ≢ name → binding new q ≡ binding old q)
    (found : List (List ℕ)) (closed : Follows (λ a b. Refers old b a) (λ x. ⊥) found) (named : Contains found name) where
  -- names that refer to a found name are found
  pub refers_found : (a b : List ℕ) → Contains found b → Refers old a b → Contains found a
  refers_found a b c r = ⊎_elim (λ l. absurd l) (λ d. d) (follows_has (λ a b. Refers old b a) (λ x. ⊥) found b a closed c r)

  pub apart_from : (q : List ℕ) → (Contains found q → ⊥) → q ≢ name
  apart_from q none e = none (subst (λ z. Contains found z) (sym e) named)

  refers_old : (a b : List ℕ) → a ≢ name → Refers new a b → Refers old a b
  refers_old a b apart r = (r.0, sym (same a apart) ∙ r.1, r.2)

  -- names outside refer to no found name
  pub refers_apart : (a b : List ℕ) → (Contains found a → ⊥) → Refers new a b → Contains found b → ⊥
  refers_apart a b none r c = none (refers_found a b c (refers_old a b (apart_from a none) r))

  module _ (order : List (List ℕ)) (o : IsKeptOrder old order) (once : IsOnce found)
      (free : (b : List ℕ) → Refers new name b → Contains found b → ⊥) where
    pub keep : List ℕ → Bool
    keep q = not (list_any (bytes_eq q) found)

    kept_apart : (q : List ℕ) → keep q ≡ true → Contains found q → ⊥
    unfolding keep
    kept_apart q k c = let never : false ≡ true = rw (list_any-from_Contains names_equal q found c) at k in absurd cc

    apart_kept : (q : List ℕ) → (Contains found q → ⊥) → keep q ≡ true
    unfolding keep
    apart_kept q none = by (list_any (bytes_eq q) found) refl
      where
        by : (t : Bool) → list_any (bytes_eq q) found ≡ t → not (list_any (bytes_eq q) found) ≡ true
        by true is = absurd (none (Contains-from_any equal-true q found is))
        by false is = rw is refl

    same_kept : (q : List ℕ) → keep q ≡ true → binding new q ≡ binding old q
    same_kept q k = same q (apart_from q (kept_apart q k))

    abbrev is_there : List ℕ → Bool
    is_there q = is_some (binding new q)

    -- the names that are found, turned round, and without the one that is removed
    abbrev turned : List (List ℕ)
    turned = filter is_there (backward found)

    abbrev new_order : List (List ℕ)
    new_order = filter keep order ++ turned

    all : (a : List ℕ) → IsSome (binding new a) → Contains new_order a
    all a present = cases_among (Contains new_order a) found a
        (λ c. Contains-append_right (filter keep order) turned a (kept_has is_there (backward found) a (backward_has found a c) present))
        (λ none.
        let k = apart_kept a none in
        Contains-append_left (filter keep order) turned a (kept_has keep order a (o.all a (subst (λ b. IsSome b) (same_kept a k) present)) k))

    only : (a : List ℕ) → Contains new_order a → IsSome (binding new a)
    only a c = ⊎_elim
        (λ l. let k = kept_only keep order a l in subst (λ b. IsSome b) (sym (same_kept a k.1)) (o.present a k.0))
        (λ r. (kept_only is_there (backward found) a r).1) (Contains-append_cases (filter keep order) turned a c)

    abbrev Needs : Names → List ℕ → List ℕ → Type 0
    Needs names a b = Refers names a b × IsSome (binding names b)

    kept_first : Follows (Needs new) (λ x. ⊥) (filter keep order)
    kept_first = follows_kept (Needs old) (Needs new) (λ x. ⊥) (λ x. ⊥) keep order
        (λ a b k n.
        let none = kept_apart a k in
        let l = apart_kept b (refers_apart a b none n.0) in
        ((refers_old a b (apart_from a none) n.0, subst (λ c. IsSome c) (same_kept b l) n.1), l))
        (λ a k d. d) o.follows

    all_turned : Follows (Needs new) (λ x. ⊥ ⊎ Contains (filter keep order) x) (backward found)
    all_turned = follows_backward (λ a b. Refers old b a) (Needs new) (λ x. ⊥) (λ x. ⊥ ⊎ Contains (filter keep order) x) found closed (λ a c d. d) once
        (λ a b c n. (
          cases_among ((⊥ ⊎ Contains (filter keep order) b) ⊎ Contains found b) found b (λ d. inr d)
              (λ none. let k = apart_kept b none in inl (inr (kept_has keep order b (o.all b (subst (λ s. IsSome s) (same_kept b k) n.1)) k))),
          λ d. refers_old a b (λ e. free b (subst (λ z. Refers new z b) e n.0) d) n.0,
        ))

    found_then : Follows (Needs new) (λ x. ⊥ ⊎ Contains (filter keep order) x) turned
    found_then = follows_kept (Needs new) (Needs new) (λ x. ⊥ ⊎ Contains (filter keep order) x) (λ x. ⊥ ⊎ Contains (filter keep order) x) is_there (backward found)
        (λ a b k n. (n, n.1)) (λ a k d. d) all_turned

    pub kept_order : IsKeptOrder new new_order
    kept_order = record {
      all = all;
      present = only;
      once = once_append (filter keep order) turned (once_kept keep order o.once) (once_kept is_there (backward found) (once_backward found once))
          (λ x c d. kept_apart x (kept_only keep order x c).1 (backward_only found x (kept_only is_there (backward found) x d).0));
      follows = follows_append (Needs new) (λ x. ⊥) (filter keep order) turned kept_first found_then;
    }

  -- names outside keep their values
  module _ (order : List (List ℕ)) (o : IsNameOrder new order) (step : (q : List ℕ) → val old q ≡ shown_beside q (binding old q) (val old)) where
    absent_same : (x : List ℕ) → x ≢ name → binding new x ≡ None → val new x ≡ val old x
    absent_same x apart none = val_absent new (length new) x none ∙ sym (val_absent old (length old) x (sym (same x apart) ∙ none))

    abbrev name_at : ℕ → List ℕ
    name_at i = slice_index_or order i []

    unaffected_at : (n i : ℕ) → i < n → i < length order → (Contains found (name_at i) → ⊥) → val new (name_at i) ≡ val old (name_at i)
    unaffected_at zero i p h none = absurd (omega arith)
    unaffected_at (suc n) i p h none =
        val_is new order o (name_at i)
        ∙ (shown_same (name_at i) (binding new (name_at i)) (val new) (val old)
        (λ t x is stands.
        let r : Refers new (name_at i) x = (t, is, stands) in
        let x_none = refers_apart (name_at i) x none r in
        cases_binding new (val new x ≡ val old x) x (absent_same x (apart_from x x_none))
        (λ present.
        let k = front [] order i x h (o.after i x h r present) in
        subst (λ y. val new y ≡ val old y) k.2
        (unaffected_at n k.0 (omega (arith, k.1)) (omega (arith, k.1)) (subst (λ y. Contains found y → ⊥) (sym k.2) x_none))))
        ∙ (ap (λ b. shown_beside (name_at i) b (val old)) (same (name_at i) (apart_from (name_at i) none)) ∙ sym (step (name_at i))))

    pub unaffected : (q : List ℕ) → (Contains found q → ⊥) → val new q ≡ val old q
    unaffected q none = cases_binding new (val new q ≡ val old q) q (absent_same q (apart_from q none))
        (λ present.
        let at = o.all q present in
        let is = get_or_default order at.0 [] q at.1 ∙ at.2 in
        subst (λ y. val new y ≡ val old y) is
        (unaffected_at (suc at.0) at.0 (omega arith) at.1 (subst (λ y. Contains found y → ⊥) (sym is) none)))
