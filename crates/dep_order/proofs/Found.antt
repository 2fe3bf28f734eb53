-- One more node among the found ones.
use Rattle.std.{proofs.Common.{◌≡◌, ◌⊎◌, inl, inr, Bool, true, false, cond, Option, Some, None, is_some, List, [], ◌∷◌, ◌++◌, refl, sym, ap, ◌∙◌, ⊎_elim}, specs.List.{Contains, list_any}, specs.Map.{keys_of, lookup}, proofs.lemmas.Map.Views.{Contains-from_any}}
use Rattle.std.proofs.lemmas.List.Elements.{Contains-append_left, Contains-append_right, Contains-append_cases}
use Rattle.indexmap.{specs.IndexMap.{insert_entry}, specs.IndexSet.{insert_key}}
use Rattle.dep_order.{specs.Follows.{Follows}, specs.Users.{IsExact, HasNothing}, proofs.Following.{contains_here, contains_one, follows_last}}

module _ {N : Type 0} (eq : N → N → Bool) (exact : IsExact eq) (found : List N) (node : N) where
  cases_inserted : (P : List N → Type 0) → (Contains found node → P found) → P (found ++ node ∷ []) → P (insert_key eq found node)
  cases_inserted P old new = by (list_any (eq node) found) refl
    where
      by : (t : Bool) → list_any (eq node) found ≡ t → P (insert_key eq found node)
      by true is = rw is (old (Contains-from_any exact node found is))
      by false is = rw is new

  pub found_has : Contains (insert_key eq found node) node
  found_has = cases_inserted (λ xs. Contains xs node) (λ c. c) (Contains-append_right found (node ∷ []) node (contains_here node []))

  pub found_kept : (a : N) → Contains found a → Contains (insert_key eq found node) a
  found_kept a c = cases_inserted (λ xs. Contains xs a) (λ d. c) (Contains-append_left found (node ∷ []) a c)

  pub found_only : (a : N) → Contains (insert_key eq found node) a → Contains found a ⊎ (a ≡ node)
  found_only a = cases_inserted (λ xs. Contains xs a → Contains found a ⊎ (a ≡ node)) (λ d c. inl c)
      (λ c. ⊎_elim (λ l. inl l) (λ r. inr (contains_one node a r)) (Contains-append_cases found (node ∷ []) a c))

  pub found_closed : (R : N → N → Type 0) → Follows R (λ x. ⊥) found → ((b : N) → R node b → Contains found b) → Follows R (λ x. ⊥) (insert_key eq found node)
  found_closed R f needs = cases_inserted (λ xs. Follows R (λ x. ⊥) xs) (λ d. f) (follows_last R (λ x. ⊥) found node f (λ b r. inr (needs b r)))

-- a node that differs from the first is inserted behind it
in_front : {N : Type 0} (eq : N → N → Bool) (x : N) (ks : List N) (k : N) → eq k x ≡ false → x ∷ insert_key eq ks k ≡ insert_key eq (x ∷ ks) k
in_front eq x ks k apart = by (list_any (eq k) ks) refl
  where
    by : (t : Bool) → list_any (eq k) ks ≡ t → x ∷ insert_key eq ks k ≡ insert_key eq (x ∷ ks) k
    by true is = rw (apart, is) refl
    by false is = rw (apart, is) refl

-- the keys of a map with values, as a list of nodes
module _ {N V : Type 0} (eq : N → N → Bool) where
  pub key_found : (es : List (N × V)) (k : N) → is_some (lookup (eq k) es) ≡ list_any (eq k) (keys_of es)
  key_found [] k = refl
  key_found (e ∷ es) k = by (eq k e.0) refl (key_found es k)
    where
      by : (t : Bool) → eq k e.0 ≡ t → is_some (lookup (eq k) es) ≡ list_any (eq k) (keys_of es) → is_some (lookup (eq k) (e ∷ es)) ≡ list_any (eq k) (keys_of (e ∷ es))
      by true is rest = rw is refl
      by false is rest = rw is rest

  pub keys_inserted : (es : List (N × V)) (k : N) (v : V) → keys_of (insert_entry eq es k v) ≡ insert_key eq (keys_of es) k
  keys_inserted [] k v = refl
  keys_inserted (e ∷ es) k v = by (eq k e.0) refl (keys_inserted es k v)
    where
      by : (t : Bool) → eq k e.0 ≡ t → keys_of (insert_entry eq es k v) ≡ insert_key eq (keys_of es) k → keys_of (insert_entry eq (e ∷ es) k v) ≡ insert_key eq (keys_of (e ∷ es)) k
      by true is rest = rw is refl
      by false is rest = (rw is refl) ∙ (ap (λ ks. e.0 ∷ ks) rest ∙ in_front eq e.0 (keys_of es) k is)

-- a node is inserted with no value
pub nothing_more : {N V : Type 0} (eq : N → N → Bool) (es new : List (N × Option V)) (k : N) → ((q : N) → lookup (eq q) new ≡ cond (eq k q) (Some None) (lookup (eq q) es)) → HasNothing eq es → HasNothing eq new
nothing_more {N} {V} eq es new k put none a v is = by (eq k a) refl
  where
    by : (t : Bool) → eq k a ≡ t → v ≡ None
    by true here = let same : Some None ≡ Some v = rw here at (sym (put a) ∙ is) in cc
    by false here = none a v (rw here at (sym (put a) ∙ is))
