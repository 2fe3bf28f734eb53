-- A list of names with one of them rebound.
use Rattle.std.{proofs.Common.{◌≡◌, ℕ, Bool, true, false, cond, List, [], ◌∷◌, ◌++◌, Some, None, IsSome, refl, sym, ap, ◌∙◌}, specs.Str.{bytes_eq}, specs.Map.{lookup, keys_of}, specs.List.{IsDistinct, AllByRecursion}, proofs.lemmas.Bool.{false≢true}}
use Rattle.{indexmap.specs.IndexMap.{insert_entry}, sheet_recalc.proofs.NameEquality.{names_equal, equal-true, equal-same}}

module _ {X : Type 0} (name : List ℕ) (v : X) where
  abbrev with_name : List (List ℕ × X) → List (List ℕ × X)
  with_name es = insert_entry bytes_eq es name v

  pub lookup_put : (es : List (List ℕ × X)) (q : List ℕ) → lookup (bytes_eq q) (with_name es) ≡ cond (bytes_eq name q) (Some v) (lookup (bytes_eq q) es)
  lookup_put [] q = ap (λ t. cond t (Some v) None) (names_equal.symm q name)
  lookup_put (e ∷ es) q = by (bytes_eq name e.0) (bytes_eq q e.0) refl refl (lookup_put es q)
    where
      by : (s t : Bool) → bytes_eq name e.0 ≡ s → bytes_eq q e.0 ≡ t → lookup (bytes_eq q) (with_name es) ≡ cond (bytes_eq name q) (Some v) (lookup (bytes_eq q) es)
          → lookup (bytes_eq q) (with_name (e ∷ es)) ≡ cond (bytes_eq name q) (Some v) (lookup (bytes_eq q) (e ∷ es))
      by true true is at rest =
          let same : bytes_eq name q ≡ true = equal-same name q (equal-true name e.0 is ∙ sym (equal-true q e.0 at)) in
          rw (is, same, at) refl
      by true false is at rest =
          let other : bytes_eq name q ≡ false = names_equal.symm name q ∙ (ap (λ n. bytes_eq q n) (equal-true name e.0 is) ∙ at) in
          rw (is, other, at) refl
      by false true is at rest =
          let other : bytes_eq name q ≡ false = ap (λ n. bytes_eq name n) (equal-true q e.0 at) ∙ is in
          rw (is, other, at) refl
      by false false is at rest = rw (is, at) rest

  -- a name that is present stays where it is
  pub keys_put : (es : List (List ℕ × X)) → IsSome (lookup (bytes_eq name) es) → keys_of (with_name es) ≡ keys_of es
  keys_put [] h = absurd (false≢true h)
  keys_put (e ∷ es) h = by (bytes_eq name e.0) refl (keys_put es) h
    where
      by : (b : Bool) → bytes_eq name e.0 ≡ b → (IsSome (lookup (bytes_eq name) es) → keys_of (with_name es) ≡ keys_of es)
          → IsSome (lookup (bytes_eq name) (e ∷ es)) → keys_of (with_name (e ∷ es)) ≡ keys_of (e ∷ es)
      by true is rest h = rw is refl
      by false is rest h = let there : IsSome (lookup (bytes_eq name) es) = rw is at h in rw is (ap (λ ks. e.0 ∷ ks) (rest there))

  -- a new name goes last
  pub put_last : (es : List (List ℕ × X)) → lookup (bytes_eq name) es ≡ None → with_name es ≡ es ++ (name, v) ∷ []
  put_last [] h = refl
  put_last (e ∷ es) h = by (bytes_eq name e.0) refl (put_last es) h
    where
      by : (b : Bool) → bytes_eq name e.0 ≡ b → (lookup (bytes_eq name) es ≡ None → with_name es ≡ es ++ (name, v) ∷ [])
          → lookup (bytes_eq name) (e ∷ es) ≡ None → with_name (e ∷ es) ≡ (e ∷ es) ++ (name, v) ∷ []
      by true is rest h = let never : Some e.1 ≡ None = rw is at h in absurd cc
      by false is rest h = let there : lookup (bytes_eq name) es ≡ None = rw is at h in rw is (ap (λ fs. e ∷ fs) (rest there))

  still_apart : (x : List ℕ) → bytes_eq x name ≡ false → (es : List (List ℕ × X)) → AllByRecursion (λ y. bytes_eq x y ≡ false) (keys_of es) → AllByRecursion (λ y. bytes_eq x y ≡ false) (keys_of (with_name es))
  still_apart x apart [] h = (apart, tt)
  still_apart x apart (e ∷ es) h = by (bytes_eq name e.0) refl (still_apart x apart es h.1)
    where
      by : (b : Bool) → bytes_eq name e.0 ≡ b → AllByRecursion (λ y. bytes_eq x y ≡ false) (keys_of (with_name es)) → AllByRecursion (λ y. bytes_eq x y ≡ false) (keys_of (with_name (e ∷ es)))
      by true is rest = rw is h
      by false is rest = rw is (h.0, rest)

  pub distinct_put : (es : List (List ℕ × X)) → IsDistinct bytes_eq (keys_of es) → IsDistinct bytes_eq (keys_of (with_name es))
  unfolding IsDistinct
  distinct_put [] h = (tt, tt)
  distinct_put (e ∷ es) h = by (bytes_eq name e.0) refl (distinct_put es h.1)
    where
      by : (b : Bool) → bytes_eq name e.0 ≡ b → IsDistinct bytes_eq (keys_of (with_name es)) → IsDistinct bytes_eq (keys_of (with_name (e ∷ es)))
      by true is rest = rw is h
      by false is rest = rw is (still_apart e.0 (names_equal.symm e.0 name ∙ is) es h.0, rest)
