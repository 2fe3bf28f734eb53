-- Plans that are made one after another, in an order in which each name comes after all that it refers to.
use Rattle.std.{proofs.Common.{◌≡◌, ◌≢◌, ℕ, ◌<◌, ◌+◌, inl, inr, Bool, true, false, cond, List, [], ◌∷◌, ◌++◌, length, map, Option, Some, None, is_some, refl, sym, ap, ◌∙◌, subst, arith, ⊎_elim}, specs.Str.{bytes_eq}, specs.List.{Contains, IsDistinct}, specs.Option.{option_map, option_map_or}}
use Rattle.std.{proofs.lemmas.Bool.{false≢true}, proofs.lemmas.List.{map-append}, proofs.lemmas.List.Sums.{sum_by_push}, proofs.lemmas.List.Elements.{Contains-append_left, Contains-append_right, Contains-append_cases}}
use Rattle.apl_expr.specs.Trees.{Tree, Const, Name, Monad, Dyad, Index, Reduce, Scan, Outer, Inner, Positions, NoPositions, Empty, Filled}
use Rattle.arrays_core.specs.Outcomes.{Outcome}
use Rattle.formula_core.{specs.Meaning.{names_in, names_in_positions}, specs.Tables.{inside, inside_positions, subtrees}, specs.Formulas.{FormulaValue, root_result}, specs.Holdings.{Holding, holding_at}, specs.Plans.{PlanValue}, specs.Sums.{total_of, summed_in, summed_at}, proofs.Alike.{eval_alike}}
use Rattle.dep_order.{specs.Follows.{Follows, IsOnce}, proofs.Following.{contains_none, contains_one, follows_has, follows_front, follows_behind}}
use Rattle.sheet_recalc.{specs.Names.{Names, Binding, Data, Formula, binding, Refers}, specs.Meaning.{val, with_origin}, specs.Costs.{delta_by, binding_cost, functions_of}, specs.Entries.{names_of, binding_of, adopting}, specs.Live.{IsRightEntry, AreRightOnceTaken, CanAdopt}}
use Rattle.sheet_recalc.{specs.ProposedSheet.{Outline, proposed_names, proposed_change, own_entry, entry_of}, specs.Planning.{IsProposed, IsUntouched, IsPlanAt, NeedsNoPlan, HasItsPlan, IsUnderWay, name_cost, names_cost, functions_at}, specs.declared.entry.Entry.{Entry}, proofs.NameEquality.{equal-true, equal-same}}
use Rattle.sheet_recalc.{proofs.Scratch.{val_absent}, proofs.Keeping.{once_distinct, distinct_once, once_front}, proofs.Live.{val_data, binding_of_name}, proofs.PlannedNames.{at_root, binding_entry, entry_other, delta_other, shows_formula, formula_old, plan_now}}
use Rattle.apl_expr.specs.declared.functions.Function1.TheVariants as function1
use Rattle.sheet_recalc.specs.declared.entry.Entry.TheVariants as entry

-- the rebound name is among these, each after all others that refer to it, and names outside keep their values
pub record IsAffected (o : Outline) (found : List (List ℕ)) : Type 0 where
  pub named : Contains found o.name
  pub closed : Follows (λ a b. Refers (proposed_names o) b a) (λ x. ⊥) found
  pub untouched : (q : List ℕ) → (Contains found q → ⊥) → IsUntouched o q

append_same : {X Y : Type 0} (f g : X → Y) (xs ys : List X) → map f xs ≡ map g xs → map f ys ≡ map g ys → map f (xs ++ ys) ≡ map g (xs ++ ys)
append_same f g xs ys left right = map-append f xs ys ∙ (ap (λ l. l ++ map f ys) left ∙ (ap (λ r. map g xs ++ r) right ∙ sym (map-append g xs ys)))

-- a property that the names of a tree settle holds for each of its subtrees
module _ (X : Type 0) (by_f by_g : Tree → X) (P : List ℕ → Type 0) (same : (t : Tree) → ((x : List ℕ) → Contains (names_in t) x → P x) → by_f t ≡ by_g t) where
  mutual
    inside_same : (t : Tree) → ((x : List ℕ) → Contains (names_in t) x → P x) → map by_f (inside t) ≡ map by_g (inside t)
    inside_same (Const l) h = refl
    inside_same (Name x) h = refl
    inside_same (Monad k b) h = append_same by_f by_g (inside b) (Monad k b ∷ []) (inside_same b h) (ap (λ o. o ∷ []) (same (Monad k b) h))
    inside_same (Dyad k a b) h =
        append_same by_f by_g (inside a) (inside b ++ Dyad k a b ∷ []) (inside_same a (λ x o. h x (Contains-append_left (names_in a) (names_in b) x o)))
        (append_same by_f by_g (inside b) (Dyad k a b ∷ []) (inside_same b (λ x o. h x (Contains-append_right (names_in a) (names_in b) x o))) (ap (λ o. o ∷ []) (same (Dyad k a b) h)))
    inside_same (Index a ps) h =
        append_same by_f by_g (inside a) (inside_positions ps ++ Index a ps ∷ []) (inside_same a (λ x o. h x (Contains-append_left (names_in a) (names_in_positions ps) x o)))
        (append_same by_f by_g (inside_positions ps) (Index a ps ∷ []) (inside_positions_same ps (λ x o. h x (Contains-append_right (names_in a) (names_in_positions ps) x o))) (ap (λ o. o ∷ []) (same (Index a ps) h)))
    inside_same (Reduce k j b) h = append_same by_f by_g (inside b) (Reduce k j b ∷ []) (inside_same b h) (ap (λ o. o ∷ []) (same (Reduce k j b) h))
    inside_same (Scan k j b) h = append_same by_f by_g (inside b) (Scan k j b ∷ []) (inside_same b h) (ap (λ o. o ∷ []) (same (Scan k j b) h))
    inside_same (Outer k a b) h =
        append_same by_f by_g (inside a) (inside b ++ Outer k a b ∷ []) (inside_same a (λ x o. h x (Contains-append_left (names_in a) (names_in b) x o)))
        (append_same by_f by_g (inside b) (Outer k a b ∷ []) (inside_same b (λ x o. h x (Contains-append_right (names_in a) (names_in b) x o))) (ap (λ o. o ∷ []) (same (Outer k a b) h)))
    inside_same (Inner k j a b) h =
        append_same by_f by_g (inside a) (inside b ++ Inner k j a b ∷ []) (inside_same a (λ x o. h x (Contains-append_left (names_in a) (names_in b) x o)))
        (append_same by_f by_g (inside b) (Inner k j a b ∷ []) (inside_same b (λ x o. h x (Contains-append_right (names_in a) (names_in b) x o))) (ap (λ o. o ∷ []) (same (Inner k j a b) h)))

    inside_positions_same : (ps : Positions) → ((x : List ℕ) → Contains (names_in_positions ps) x → P x) → map by_f (inside_positions ps) ≡ map by_g (inside_positions ps)
    inside_positions_same NoPositions h = refl
    inside_positions_same (Empty ps) h = inside_positions_same ps h
    inside_positions_same (Filled e ps) h =
        append_same by_f by_g (inside e) (inside_positions ps) (inside_same e (λ x o. h x (Contains-append_left (names_in e) (names_in_positions ps) x o)))
        (inside_positions_same ps (λ x o. h x (Contains-append_right (names_in e) (names_in_positions ps) x o)))

  subtrees_same : (t : Tree) → ((x : List ℕ) → Contains (names_in t) x → P x) → map by_f (subtrees t) ≡ map by_g (subtrees t)
  subtrees_same (Name x) h = ap (λ o. o ∷ []) (same (Name x) h)
  subtrees_same (Const l) h = ap (λ o. o ∷ []) (same (Const l) h)
  subtrees_same (Monad k b) h = inside_same (Monad k b) h
  subtrees_same (Dyad k a b) h = inside_same (Dyad k a b) h
  subtrees_same (Index a ps) h = inside_same (Index a ps) h
  subtrees_same (Reduce k j b) h = inside_same (Reduce k j b) h
  subtrees_same (Scan k j b) h = inside_same (Scan k j b) h
  subtrees_same (Outer k a b) h = inside_same (Outer k a b) h
  subtrees_same (Inner k j a b) h = inside_same (Inner k j a b) h

-- only the names in a tree matter, to the result of each tree in it, and to the sums that are kept for it
module _ (f g : List ℕ → Outcome) (t : Tree) (h : (x : List ℕ) → Contains (names_in t) x → f x ≡ g x) where
  summed_alike : (u : Tree) → ((x : List ℕ) → Contains (names_in u) x → f x ≡ g x) → summed_at f u ≡ summed_at g u
  summed_alike (Const l) k = refl
  summed_alike (Name x) k = refl
  summed_alike (Monad m b) k = refl
  summed_alike (Dyad m a b) k = refl
  summed_alike (Index a ps) k = refl
  summed_alike (Reduce m j b) k = ap (λ o. option_map_or (λ fold. summed_in fold o) (total_of (function1.Reduce m j)) None) (eval_alike b f g k)
  summed_alike (Scan m j b) k = refl
  summed_alike (Outer m a b) k = refl
  summed_alike (Inner m j a b) k = refl

  pub held_same : map (holding_at f) (subtrees t) ≡ map (holding_at g) (subtrees t)
  held_same = subtrees_same Holding (holding_at f) (holding_at g) (λ x. f x ≡ g x) (λ u k. let e = eval_alike u f g k in let s = summed_alike u k in λ i. record { result = e i; sums = s i }) t h

-- the last of names of which each comes after those that refer to it refers to none of them
module _ (names : Names) (front : List (List ℕ)) (x : List ℕ) (once : Contains front x → ⊥) (closed : Follows (λ a b. Refers names b a) (λ y. ⊥) (front ++ x ∷ [])) where
  pub last_apart : (y : List ℕ) → Refers names x y → Contains (front ++ x ∷ []) y → ⊥
  last_apart y r c = ⊎_elim
      (λ l. ⊎_elim (λ d. d) once (follows_has (λ a b. Refers names b a) (λ y. ⊥) front y x (follows_front (λ a b. Refers names b a) (λ y. ⊥) front (x ∷ []) closed) l r))
      (λ e. ⊎_elim (λ d. d) once (follows_behind (λ a b. Refers names b a) (λ y. ⊥) front x [] closed x (subst (λ z. Refers names x z) (contains_one x y e) r)))
      (Contains-append_cases front (x ∷ []) y c)

module _ (o : Outline) where
  abbrev es : List (List ℕ × Entry)
  es = o.entries

  abbrev old : Names
  old = names_of es

  abbrev new : Names
  new = proposed_names o

  -- in the beginning there is no plan
  module _ (found : List (List ℕ)) (affected : IsAffected o found) where
    not_found : (q : List ℕ) → (Contains found q → ⊥) → NeedsNoPlan o q
    not_found q none = record {
      others = λ apart. affected.untouched q none;
      reads = λ t bound. (
        (λ e. none (subst (λ z. Contains found z) (sym e) affected.named)),
        (λ x stands. affected.untouched x (λ h. ⊎_elim (λ d. d) none (follows_has (λ a b. Refers new b a) (λ y. ⊥) found x q affected.closed h (t, bound, stands)))),
      );
    }

    pub under_way_first : IsDistinct bytes_eq found → (made : List ℕ → Option PlanValue) → ((q : List ℕ) → made q ≡ None) → IsUnderWay o found made
    under_way_first once made is = record {
      once = once;
      closed = affected.closed;
      plans = λ q p h. let never : None ≡ Some p = sym (is q) ∙ h in absurd cc;
      done = λ q none. inr (not_found q none);
    }

  module _ (ready : IsProposed o) where
    -- a name that is bound to no formula needs no plan
    module _ (x : List ℕ) (plain : (f : FormulaValue) → entry_of o x ≡ Some (entry.Formula f) → ⊥) where
      no_formula : (t : Tree) → binding new x ≡ Some (Formula t) → ⊥
      no_formula t bound = by (entry_of o x) refl
        where
          by : (e : Option Entry) → entry_of o x ≡ e → ⊥
          by None is = let never : None ≡ Some (Formula t) = sym (binding_entry o x ∙ ap (option_map binding_of) is) ∙ bound in absurd cc
          by (Some (entry.Data a)) is = let never : Some (Data a) ≡ Some (Formula t) = sym (binding_entry o x ∙ ap (option_map binding_of) is) ∙ bound in absurd cc
          by (Some (entry.Formula f)) is = plain f is

      plain_untouched : bytes_eq x o.name ≡ false → IsUntouched o x
      plain_untouched other = by (entry_of o x) refl
        where
          stood : (e : Option Entry) → entry_of o x ≡ e → binding old x ≡ option_map binding_of e
          stood e is = binding_of_name es x ∙ ap (option_map binding_of) (entry_other o x e other is)

          bound : (e : Option Entry) → entry_of o x ≡ e → binding new x ≡ option_map binding_of e
          bound e is = binding_entry o x ∙ ap (option_map binding_of) is

          by : (e : Option Entry) → entry_of o x ≡ e → IsUntouched o x
          by None is = record {
            shows = val_absent new (length new) x (bound None is) ∙ sym (val_absent old (length old) x (stood None is));
            same = delta_other o ready x other ∙ ap (λ b. delta_by x b (proposed_change o)) (bound None is);
          }
          by (Some (entry.Data a)) is = record {
            shows = val_data new x a (bound (Some (entry.Data a)) is) ∙ sym (val_data old x a (stood (Some (entry.Data a)) is));
            same = delta_other o ready x other ∙ ap (λ b. delta_by x b (proposed_change o)) (bound (Some (entry.Data a)) is);
          }
          by (Some (entry.Formula f)) is = absurd (plain f is)

      pub plain_needs_none : NeedsNoPlan o x
      plain_needs_none = record { others = λ apart. by apart (bytes_eq x o.name) refl; reads = λ t bound. absurd (no_formula t bound) }
        where
          by : x ≢ o.name → (t : Bool) → bytes_eq x o.name ≡ t → IsUntouched o x
          by apart true is = absurd (apart (equal-true x o.name is))
          by apart false is = plain_untouched is

      pub plain_applies_none : functions_at o x ≡ 0
      plain_applies_none = by (binding new x) refl
        where
          by : (b : Option Binding) → binding new x ≡ b → option_map_or functions_of b 0 ≡ 0
          by None is = refl
          by (Some (Data a)) is = refl
          by (Some (Formula t)) is = absurd (no_formula t is)

      pub plain_costs_nothing : name_cost o.name (proposed_change o) new x ≡ 0
      plain_costs_nothing = by (binding new x) refl
        where
          by : (b : Option Binding) → binding new x ≡ b → option_map_or (λ d. binding_cost o.name (proposed_change o) (x, d)) b 0 ≡ 0
          by None is = refl
          by (Some (Data a)) is = refl
          by (Some (Formula t)) is = absurd (no_formula t is)

    -- the next name is bound to no formula, or its plan is made
    module _ (front : List (List ℕ)) (x : List ℕ) (left : List (List ℕ)) (split : left ≡ front ++ x ∷ []) (made : List ℕ → Option PlanValue) (now : IsUnderWay o left made) where
      once_now : (Contains front x → ⊥) × IsOnce front
      once_now = once_front front x (distinct_once (front ++ x ∷ []) (subst (λ xs. IsDistinct bytes_eq xs) split now.once))

      closed_now : Follows (λ a b. Refers new b a) (λ y. ⊥) (front ++ x ∷ [])
      closed_now = subst (λ xs. Follows (λ a b. Refers new b a) (λ y. ⊥) xs) split now.closed

      not_left : (q : List ℕ) → (Contains front q → ⊥) → bytes_eq x q ≡ false → Contains left q → ⊥
      not_left q none apart c = ⊎_elim none (λ e. false≢true (sym apart ∙ equal-same x q (sym (contains_one x q e)))) (Contains-append_cases front (x ∷ []) q (subst (λ xs. Contains xs q) split c))

      pub cost_split : names_cost o left ≡ names_cost o front + name_cost o.name (proposed_change o) new x
      cost_split = ap (names_cost o) split ∙ sum_by_push (name_cost o.name (proposed_change o) new) front x

      pub plain_next : ((f : FormulaValue) → entry_of o x ≡ Some (entry.Formula f) → ⊥) → IsUnderWay o front made
      plain_next plain = record { once = once_distinct front once_now.1; closed = follows_front (λ a b. Refers new b a) (λ y. ⊥) front (x ∷ []) closed_now; plans = now.plans; done = done }
        where
          done : (q : List ℕ) → (Contains front q → ⊥) → HasItsPlan o made q
          done q none = by (bytes_eq x q) refl
            where
              by : (t : Bool) → bytes_eq x q ≡ t → HasItsPlan o made q
              by true e = inr (subst (λ y. NeedsNoPlan o y) (equal-true x q e) (plain_needs_none x plain))
              by false e = now.done q (not_left q none e)

      -- the references of its formula are done
      pub reads_done : (f : FormulaValue) → entry_of o x ≡ Some (entry.Formula f) → (y : List ℕ) → Contains (names_in f.tree) y → HasItsPlan o made y
      reads_done f held y stands =
          now.done y (λ c. last_apart new front x once_now.0 closed_now y (f.tree, binding_entry o x ∙ ap (option_map binding_of) held, stands) (subst (λ xs. Contains xs y) split c))

      pub formula_next : (plan : PlanValue) → IsPlanAt o x plan → (made' : List ℕ → Option PlanValue)
          → ((q : List ℕ) → made' q ≡ cond (bytes_eq x q) (Some plan) (made q)) → IsUnderWay o front made'
      formula_next plan right made' change = record { once = once_distinct front once_now.1; closed = follows_front (λ a b. Refers new b a) (λ y. ⊥) front (x ∷ []) closed_now; plans = plans; done = done }
        where
          plans : (q : List ℕ) (p : PlanValue) → made' q ≡ Some p → IsPlanAt o q p
          plans q p found = by (bytes_eq x q) refl
            where
              by : (t : Bool) → bytes_eq x q ≡ t → IsPlanAt o q p
              by true e =
                  let same : Some plan ≡ Some p = rw e at (sym (change q) ∙ found) in
                  let this : plan ≡ p = cc in
                  subst (IsPlanAt o q) this (subst (λ y. IsPlanAt o y plan) (equal-true x q e) right)
              by false e = now.plans q p (rw e at (sym (change q) ∙ found))

          done : (q : List ℕ) → (Contains front q → ⊥) → HasItsPlan o made' q
          done q none = by (bytes_eq x q) refl
            where
              by : (t : Bool) → bytes_eq x q ≡ t → HasItsPlan o made' q
              by true e = inl (rw (change q, e) refl)
              by false e = ⊎_elim (λ l. inl (rw (change q, e) l)) (λ r. inr r) (now.done q (not_left q none e))

    -- a formula that takes its plan is right
    adopting_right : (q : List ℕ) (f : FormulaValue) (p : PlanValue) → IsPlanAt o q p → entry_of o q ≡ Some (entry.Formula f) → IsRightEntry (val new) q (adopting (entry.Formula f) p)
    adopting_right q f p plan held =
        let made = plan_now o q p f plan held in (
          record { worked_out = refl; nodes = made.1.right },
          ap (λ hs. with_origin q (root_result hs)) made.1.right ∙ (ap (λ (h : Holding). with_origin q h.result) (at_root (holding_at (val new)) f.tree _) ∙ sym (shows_formula o ready q f held)),
        )

    -- a name that needs no plan is right
    still_right : (q : List ℕ) (e : Entry) → NeedsNoPlan o q → entry_of o q ≡ Some e → IsRightEntry (val new) q e
    still_right q (entry.Data a) n is = sym (val_data new q a (binding_entry o q ∙ ap (option_map binding_of) is))
    still_right q (entry.Formula f) n is = by (bytes_eq q o.name) refl
      where
        reads : (q ≢ o.name) × ((x : List ℕ) → Contains (names_in f.tree) x → IsUntouched o x)
        reads = n.reads f.tree (binding_entry o q ∙ ap (option_map binding_of) is)

        by : (t : Bool) → bytes_eq q o.name ≡ t → IsRightEntry (val new) q (entry.Formula f)
        by true e = absurd (reads.0 (equal-true q o.name e))
        by false e =
            let was = formula_old o ready q f is e in (
              record { worked_out = was.0.worked_out; nodes = was.0.nodes ∙ held_same (val old) (val new) f.tree (λ x h. sym (reads.1 x h).shows) },
              was.1 ∙ sym (n.others reads.0).shows,
            )

    -- with no name left, the plans are those of the change
    pub planned_in_the_end : (left : List (List ℕ)) (made : List ℕ → Option PlanValue) → IsUnderWay o left made → (0 < length left → ⊥) → AreRightOnceTaken es o.name (own_entry o) new made
    planned_in_the_end (x ∷ left) made now none = absurd (none (omega arith))
    planned_in_the_end [] made now none = record { can = can; right = right; rest = rest }
      where
        can : (q : List ℕ) (e : Entry) (p : PlanValue) → entry_of o q ≡ Some e → made q ≡ Some p → CanAdopt e p
        can q (entry.Data a) p is found =
            let plan = now.plans q p found in
            let never : Some (entry.Data a) ≡ Some (entry.Formula plan.formula) = sym is ∙ plan.held in absurd cc
        can q (entry.Formula f) p is found = (plan_now o q p f (now.plans q p found) is).0

        right : (q : List ℕ) (e : Entry) (p : PlanValue) → entry_of o q ≡ Some e → made q ≡ Some p → IsRightEntry (val new) q (adopting e p)
        right q (entry.Data a) p is found = absurd (can q (entry.Data a) p is found)
        right q (entry.Formula f) p is found = adopting_right q f p (now.plans q p found) is

        rest : (q : List ℕ) (e : Entry) → entry_of o q ≡ Some e → made q ≡ None → IsRightEntry (val new) q e
        rest q e is absent = ⊎_elim (λ l. absurd (false≢true (subst (λ p. is_some p ≡ true) absent l))) (λ n. still_right q e n is) (now.done q (λ c. contains_none q c))

pub nothing_left : (o : Outline) (left : List (List ℕ)) → (0 < length left → ⊥) → names_cost o left ≡ 0
nothing_left o [] none = refl
nothing_left o (x ∷ left) none = absurd (none (omega arith))
