-- Where each name stands after its references, one step from the values of the names gives these values: a greater depth
-- changes nothing. And then nothing reaches itself.
use Rattle.std.{proofs.Common.{◌≡◌, ℕ, zero, suc, ◌<◌, List, [], ◌∷◌, take, length, slice_index_or, Option, Some, None, Err, IsSome, refl, sym, ap, ◌∙◌, subst, arith, ◌≤◌}, specs.List.{Contains}, proofs.lemmas.List.{get_or-take, get_or_default, length-take}}
use Rattle.{dep_order.specs.Reachability.{Chain, IsAcyclic}, apl_expr.specs.Trees.{Tree}}
use Rattle.arrays_core.{specs.declared.item.Kind.TheVariants.{Value}, specs.Outcomes.{Outcome, fault}}
use Rattle.formula_core.{specs.Meaning.{names_in}, proofs.Alike.{eval_alike}}
use Rattle.sheet_recalc.{specs.Names.{Names, Binding, Data, Formula, binding, Refers}, specs.Meaning.{shown_beside, with_origin, val_at, val}}

-- each present name, after all the present names that it refers to
pub record IsNameOrder (names : Names) (order : List (List ℕ)) : Type 0 where
  pub all : (a : List ℕ) → IsSome (binding names a) → Contains order a
  pub after : (i : ℕ) (b : List ℕ) → i < length order → Refers names (slice_index_or order i []) b → IsSome (binding names b) → Contains (take i order) b
  pub short : length order ≤ length names

pub shown_same : (name : List ℕ) (b : Option Binding) (f g : List ℕ → Outcome) → ((t : Tree) (x : List ℕ) → b ≡ Some (Formula t) → Contains (names_in t) x → f x ≡ g x) → shown_beside name b f ≡ shown_beside name b g
shown_same name None f g h = refl
shown_same name (Some (Data a)) f g h = refl
shown_same name (Some (Formula t)) f g h = ap (with_origin name) (eval_alike t f g (λ x o. h t x refl o))

pub front : {A : Type 0} (d : A) (xs : List A) (i : ℕ) (x : A) → i < length xs → Contains (take i xs) x → (k : ℕ) × (k < i) × (slice_index_or xs k d ≡ x)
front d xs i x h c =
    let below : c.0 < i = omega (arith, c.1, length-take i xs) in
    (c.0, below, get_or_default xs c.0 d x (omega arith) ∙ (sym (get_or-take i xs c.0 x below) ∙ c.2))

module _ (names : Names) where
  -- a binding is there, or not
  pub cases_binding : (P : Type 0) → (x : List ℕ) → (binding names x ≡ None → P) → (IsSome (binding names x) → P) → P
  cases_binding P x absent present = by (binding names x) refl
    where
      by : (b : Option Binding) → binding names x ≡ b → P
      by None e = absent e
      by (Some b) e = present (subst (λ o. IsSome o) (sym e) refl)

  module _ (order : List (List ℕ)) (o : IsNameOrder names order) where
    abbrev name_at : ℕ → List ℕ
    name_at i = slice_index_or order i []

    number_in : (name : List ℕ) → IsSome (binding names name) → (i : ℕ) × (i < length order) × (name_at i ≡ name)
    number_in name present =
        let at = o.all name present in
        (at.0, at.1, get_or_default order at.0 [] name at.1 ∙ at.2)

    -- the value of each name to a depth: one step more each time, from the values of its references
    module _ {A : Type 0} (worked : ℕ → List ℕ → A) (step : List ℕ → (List ℕ → A) → A)
        (deeper : (d : ℕ) (q : List ℕ) → worked (suc d) q ≡ step q (worked d))
        (same : (q : List ℕ) (f g : List ℕ → A) → ((x : List ℕ) → Refers names q x → f x ≡ g x) → step q f ≡ step q g)
        (absent : (d e : ℕ) (x : List ℕ) → binding names x ≡ None → worked d x ≡ worked e x) where
      -- past its number in the order, the depth does not matter
      pub stable : (d e i : ℕ) → i < length order → i < d → i < e → worked d (name_at i) ≡ worked e (name_at i)
      stable zero e i h p q = absurd (omega arith)
      stable (suc d) zero i h p q = absurd (omega arith)
      stable (suc d) (suc e) i h p q =
          deeper d (name_at i)
          ∙ (same (name_at i) (worked d) (worked e)
          (λ x refers. cases_binding (worked d x ≡ worked e x) x (λ none. absent d e x none)
          (λ present.
          let k = front [] order i x h (o.after i x h refers present) in
          subst (λ y. worked d y ≡ worked e y) k.2 (stable d e k.0 (omega (arith, k.1)) (omega (arith, k.1)) (omega (arith, k.1)))))
          ∙ sym (deeper e (name_at i)))

      -- to the depth of the number of names, it is one step from itself
      pub settles : (q : List ℕ) → worked (length names) q ≡ step q (worked (length names))
      settles q = cases_binding (worked (length names) q ≡ worked (suc (length names)) q) q
          (λ none. absent (length names) (suc (length names)) q none)
          (λ present.
          let at = number_in q present in
          subst (λ y. worked (length names) y ≡ worked (suc (length names)) y) at.2
          (stable (length names) (suc (length names)) at.0 at.1 (omega (arith, at.1, o.short)) (omega (arith, at.1, o.short))))
          ∙ deeper (length names) q

  pub val_absent : (d : ℕ) (x : List ℕ) → binding names x ≡ None → val_at d names x ≡ Err (fault Value)
  val_absent zero x e = refl
  val_absent (suc d) x e = ap (λ b. shown_beside x b (val_at d names)) e

  module _ (order : List (List ℕ)) (o : IsNameOrder names order) where
    -- the value of a name is one step from the values of all names
    pub val_is : (name : List ℕ) → val names name ≡ shown_beside name (binding names name) (val names)
    val_is name = settles order o (λ d. val_at d names) (λ q f. shown_beside q (binding names q) f) (λ d q. refl)
        (λ q f g h. shown_same q (binding names q) f g (λ t x is stands. h x (t, is, stands)))
        (λ d e x none. val_absent d x none ∙ sym (val_absent e x none)) name

    present_of : (a : List ℕ) (via : List (List ℕ)) (b : List ℕ) → Chain (Refers names) a via b → IsSome (binding names a)
    present_of a [] b r = subst (λ s. IsSome s) (sym r.1) refl
    present_of a (x ∷ xs) b r = subst (λ s. IsSome s) (sym r.0.1) refl

    -- a chain leads back in the order
    down : (via : List (List ℕ)) (i : ℕ) (b : List ℕ) → i < length order → Chain (Refers names) (name_at order o i) via b → IsSome (binding names b) → (k : ℕ) × (k < i) × (name_at order o k ≡ b)
    down [] i b h r present = front [] order i b h (o.after i b h r present)
    down (x ∷ xs) i b h r present =
        let k = front [] order i x h (o.after i x h r.0 (present_of x xs b r.1)) in
        let m = down xs k.0 b (omega (arith, k.1)) (subst (λ y. Chain (Refers names) y xs b) (sym k.2) r.1) present in
        (m.0, omega (arith, m.1, k.1), m.2)

    never : (a : List ℕ) (via : List (List ℕ)) → Chain (Refers names) a via a → (n i : ℕ) → i < n → i < length order → name_at order o i ≡ a → ⊥
    never a via r zero i p h e = absurd (omega arith)
    never a via r (suc n) i p h e =
        let k = down via i a h (subst (λ y. Chain (Refers names) y via a) (sym e) r) (present_of a via a r) in
        never a via r n k.0 (omega (arith, k.1)) (omega (arith, k.1)) k.2

    pub acyclic_from_order : IsAcyclic (Refers names)
    acyclic_from_order a r =
        let at = number_in order o a (present_of a r.0 a r.1) in
        never a r.0 r.1 (suc at.0) at.0 (omega arith) at.1 at.2
