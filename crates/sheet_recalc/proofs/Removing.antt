-- A list of names without one of them.
use Rattle.std.{proofs.Common.{◌≡◌, ℕ, ◌≤◌, Bool, true, false, not, cond, List, [], ◌∷◌, length, filter, None, refl, sym, ap, ◌∙◌, arith}, specs.Str.{bytes_eq}, specs.Map.{lookup, keys_of, remove_entry}, specs.List.{IsDistinct, AllByRecursion}}
use Rattle.sheet_recalc.{specs.Entries.{names_of, binding_of}, specs.Names.{without}, specs.declared.entry.Entry.{Entry}, proofs.NameEquality.{equal-true, equal-same}}

module _ {X : Type 0} (name : List ℕ) where
  abbrev pub others : List (List ℕ × X) → List (List ℕ × X)
  others es = filter (λ e. not (bytes_eq name e.0)) es

  pub lookup_others : (es : List (List ℕ × X)) (q : List ℕ) → lookup (bytes_eq q) (others es) ≡ cond (bytes_eq name q) None (lookup (bytes_eq q) es)
  lookup_others [] q = by (bytes_eq name q) refl
    where
      by : (t : Bool) → bytes_eq name q ≡ t → lookup (bytes_eq q) (others []) ≡ cond (bytes_eq name q) None None
      by true is = rw is refl
      by false is = rw is refl
  lookup_others (e ∷ es) q = by (bytes_eq name e.0) (bytes_eq q e.0) refl refl (lookup_others es q)
    where
      by : (s t : Bool) → bytes_eq name e.0 ≡ s → bytes_eq q e.0 ≡ t → lookup (bytes_eq q) (others es) ≡ cond (bytes_eq name q) None (lookup (bytes_eq q) es)
          → lookup (bytes_eq q) (others (e ∷ es)) ≡ cond (bytes_eq name q) None (lookup (bytes_eq q) (e ∷ es))
      by true true is at rest =
          let same : bytes_eq name q ≡ true = equal-same name q (equal-true name e.0 is ∙ sym (equal-true q e.0 at)) in
          rw (is, rest, same) refl
      by true false is at rest = rw (is, at) rest
      by false true is at rest =
          let other : bytes_eq name q ≡ false = ap (λ n. bytes_eq name n) (equal-true q e.0 at) ∙ is in
          rw (is, other, at) refl
      by false false is at rest = rw (is, at) rest

  -- all keys that are kept were there
  others_all : (P : List ℕ → Type 0) (es : List (List ℕ × X)) → AllByRecursion P (keys_of es) → AllByRecursion P (keys_of (others es))
  others_all P [] h = tt
  others_all P (e ∷ es) h = by (bytes_eq name e.0) refl (others_all P es h.1)
    where
      by : (t : Bool) → bytes_eq name e.0 ≡ t → AllByRecursion P (keys_of (others es)) → AllByRecursion P (keys_of (others (e ∷ es)))
      by true is rest = rw is rest
      by false is rest = rw is (h.0, rest)

  pub distinct_others : (es : List (List ℕ × X)) → IsDistinct bytes_eq (keys_of es) → IsDistinct bytes_eq (keys_of (others es))
  unfolding IsDistinct
  distinct_others [] d = tt
  distinct_others (e ∷ es) d = by (bytes_eq name e.0) refl (distinct_others es d.1)
    where
      by : (t : Bool) → bytes_eq name e.0 ≡ t → IsDistinct bytes_eq (keys_of (others es)) → IsDistinct bytes_eq (keys_of (others (e ∷ es)))
      by true is rest = rw is rest
      by false is rest = rw is (others_all (λ y. bytes_eq e.0 y ≡ false) es d.0, rest)

  pub few_others : (es : List (List ℕ × X)) → length (others es) ≤ length es
  few_others [] = omega arith
  few_others (e ∷ es) = by (bytes_eq name e.0) refl (few_others es)
    where
      by : (t : Bool) → bytes_eq name e.0 ≡ t → length (others es) ≤ length es → length (others (e ∷ es)) ≤ length (e ∷ es)
      by true is rest = rw is (omega (arith, rest))
      by false is rest = rw is (omega (arith, rest))

  -- where the keys are distinct, to take out one entry leaves the others
  all_others : (x : List ℕ) (es : List (List ℕ × X)) → name ≡ x → AllByRecursion (λ y. bytes_eq x y ≡ false) (keys_of es) → others es ≡ es
  all_others x [] same h = refl
  all_others x (e ∷ es) same h =
      let apart : bytes_eq name e.0 ≡ false = ap (λ n. bytes_eq n e.0) same ∙ h.0 in
      rw apart (ap (λ fs. e ∷ fs) (all_others x es same h.1))

  pub removed_others : (es : List (List ℕ × X)) → IsDistinct bytes_eq (keys_of es) → remove_entry (bytes_eq name) es ≡ others es
  unfolding IsDistinct
  removed_others [] d = refl
  removed_others (e ∷ es) d = by (bytes_eq name e.0) refl (removed_others es d.1)
    where
      by : (t : Bool) → bytes_eq name e.0 ≡ t → remove_entry (bytes_eq name) es ≡ others es → remove_entry (bytes_eq name) (e ∷ es) ≡ others (e ∷ es)
      by true is rest = rw is (sym (all_others e.0 es (equal-true name e.0 is) d.0))
      by false is rest = rw is (ap (λ fs. e ∷ fs) rest)

pub names_of_others : (name : List ℕ) (es : List (List ℕ × Entry)) → names_of (others name es) ≡ without (names_of es) name
names_of_others name [] = refl
names_of_others name (e ∷ es) = by (bytes_eq name e.0) refl (names_of_others name es)
  where
    by : (t : Bool) → bytes_eq name e.0 ≡ t → names_of (others name es) ≡ without (names_of es) name → names_of (others name (e ∷ es)) ≡ without (names_of (e ∷ es)) name
    by true is rest = rw is rest
    by false is rest = rw is (ap (λ ns. (e.0, binding_of e.1) ∷ ns) rest)
