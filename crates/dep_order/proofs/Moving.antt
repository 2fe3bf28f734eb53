-- Moving entries into an empty map keeps them unchanged.
use Rattle.std.{proofs.Common.{◌≡◌, Bool, false, List, [], ◌∷◌, ◌++◌, refl, sym, ap, ◌∙◌, subst}, specs.Cmp.{IsEquivalence}, specs.Map.{keys_of}, specs.List.{IsDistinct, AllByRecursion}, proofs.lemmas.List.{append_assoc, append-nil}}
use Rattle.indexmap.specs.IndexMap.{insert_entry, insert_all}

module _ {K : Type 0} (eq : K → K → Bool) (laws : IsEquivalence eq) where
  -- no key of the one list is equal to a key of the other
  abbrev AllNew : List K → List K → Type 0
  AllNew done [] = Unit {0}
  AllNew done (x ∷ xs) = AllByRecursion (λ y. eq y x ≡ false) done × AllNew done xs

  all_push : (P : K → Type 0) (done : List K) (x : K) → AllByRecursion P done → P x → AllByRecursion P (done ++ x ∷ [])
  all_push P [] x all here = (here, tt)
  all_push P (y ∷ done) x all here = (all.0, all_push P done x all.1 here)

  new_push : (done : List K) (x : K) (xs : List K) → AllNew done xs → AllByRecursion (λ y. eq x y ≡ false) xs → AllNew (done ++ x ∷ []) xs
  new_push done x [] new apart = tt
  new_push done x (y ∷ xs) new apart = (all_push (λ z. eq z y ≡ false) done x new.0 apart.0, new_push done x xs new.1 apart.1)

  new_none : (xs : List K) → AllNew [] xs
  new_none [] = tt
  new_none (x ∷ xs) = (tt, new_none xs)

  module _ {V : Type 0} where
    keys_push : (done : List (K × V)) (e : K × V) → keys_of (done ++ e ∷ []) ≡ keys_of done ++ e.0 ∷ []
    keys_push [] e = refl
    keys_push (d ∷ done) e = ap (λ ks. d.0 ∷ ks) (keys_push done e)

    entry_behind : (done : List (K × V)) (k : K) (v : V) → AllByRecursion (λ y. eq y k ≡ false) (keys_of done) → insert_entry eq done k v ≡ done ++ (k, v) ∷ []
    entry_behind [] k v all = refl
    entry_behind (d ∷ done) k v all = rw (laws.symm k d.0, all.0) (ap (λ es. d ∷ es) (entry_behind done k v all.1))

    entries_behind : (done xs : List (K × V)) → IsDistinct eq (keys_of xs) → AllNew (keys_of done) (keys_of xs) → insert_all eq done xs ≡ done ++ xs
    unfolding IsDistinct
    entries_behind done [] distinct new = sym (append-nil done)
    entries_behind done (x ∷ xs) distinct new =
        ap (λ es. insert_all eq es xs) (entry_behind done x.0 x.1 new.0)
        ∙ (entries_behind (done ++ x ∷ []) xs distinct.1 (subst (λ ks. AllNew ks (keys_of xs)) (sym (keys_push done x)) (new_push (keys_of done) x.0 (keys_of xs) new.1 distinct.0)) ∙ append_assoc done (x ∷ []) xs)

    pub entries_moved : (xs : List (K × V)) → IsDistinct eq (keys_of xs) → insert_all eq [] xs ≡ xs
    entries_moved xs distinct = entries_behind [] xs distinct (new_none (keys_of xs))
