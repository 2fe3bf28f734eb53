-- A name is rebound or removed: it and the names that reach it are found; either it would reach itself, or the order is kept.
use Rattle.std.{proofs.Common.{◌≡◌, ◌≢◌, ℕ, ◌⊎◌, ◌↔◌, inl, inr, List, [], ◌∷◌, Option, Some, None, refl, sym, ◌∙◌, subst, arith, ⊎_elim}, specs.Str.{bytes_eq}, specs.List.{Contains, IsDistinct}, specs.Prelude.{Vec}, specs.Option.{option_map_or}}
use Rattle.dep_order.{specs.Reachability.{Chain, Reaches, IsAcyclic}, specs.Follows.{Follows}, specs.Users.{Uses, EachFollowsUsers, HasNoEmptyBut}, proofs.Following.{contains_none, follows_weaker, follows_has}}
use Rattle.sheet_recalc.{specs.Names.{Names, Binding, Data, Formula, binding, put, rebound, Refers, referred, referred_by, IsSheet}, specs.Meaning.{val, IsSettled}, specs.Costs.{AreAllThatReach}, specs.Entries.{names_of}, specs.Live.{IsLive, IsCurrent, TellsUsers}, specs.ProposedSheet.{IsReaching}}
use Rattle.sheet_recalc.{specs.NameOrder.{IsKeptOrder, HasOrder}, specs.declared.entry.Entry.{Entry}, proofs.Binding.{rebound_same, rebound_own}, proofs.Scratch.{val_is, acyclic_from_order}, proofs.Keeping.{cases_name, distinct_once, name_order, kept_order, unaffected}}

-- the references of a name
pub refers_to : (names : Names) (a : List ℕ) (b : Binding) (c : List ℕ) → binding names a ≡ Some b → Contains (referred b) c → Refers names a c
refers_to names a (Data d) c is h = absurd (omega (arith, h.1))
refers_to names a (Formula t) c is h = (t, is, h)

-- the names in the binding of a name are its references
pub refers_referred : (names : Names) (a c : List ℕ) → Refers names a c → Contains (referred_by names a) c
refers_referred names a c r = subst (λ (o : Option Binding). Contains (option_map_or referred o []) c) (sym r.1) r.2

pub referred_refers : (names : Names) (a c : List ℕ) → Contains (referred_by names a) c → Refers names a c
referred_refers names a c = by (binding names a) refl
  where
    by : (o : Option Binding) → binding names a ≡ o → Contains (option_map_or referred o []) c → Refers names a c
    by None is h = absurd (contains_none c h)
    by (Some b) is h = refers_to names a b c is h

module _ {S : Type 0} (es : List (List ℕ × Entry)) (users : List (List ℕ × Vec (List ℕ) S)) (live : IsLive es users) (name : List ℕ) (b : Option Binding)
    (found : List (List ℕ)) (closed : EachFollowsUsers bytes_eq users found) (named : Contains found name) (sound : (a : List ℕ) → Contains found a → (a ≡ name) ⊎ Reaches (Uses bytes_eq users) a name)
    (distinct : IsDistinct bytes_eq found) where
  abbrev old : Names
  old = names_of es

  abbrev new : Names
  new = rebound old name b

  same : (q : List ℕ) → q ≢ name → binding new q ≡ binding old q
  same q apart = rebound_same old name b q apart

  closed_old : Follows (λ x y. Refers old y x) (λ x. ⊥) found
  closed_old = follows_weaker (λ x y. Uses bytes_eq users y x) (λ x y. Refers old y x) (λ x. ⊥) (λ x. ⊥) found (λ x y c r. (live.tells y x).1 r) (λ x d. d) closed

  reaches_new : (c : List ℕ) (via : List (List ℕ)) → Chain (Uses bytes_eq users) c via name → (c ≡ name) ⊎ Reaches (Refers new) c name
  reaches_new c [] chain = cases_name ((c ≡ name) ⊎ Reaches (Refers new) c name) name c (λ e. inl e)
      (λ apart. let r = (live.tells c name).0 chain in inr ([], (r.0, same c apart ∙ r.1, r.2)))
  reaches_new c (x ∷ via) chain = cases_name ((c ≡ name) ⊎ Reaches (Refers new) c name) name c (λ e. inl e)
      (λ apart.
      let r = (live.tells c x).0 chain.0 in
      let step : Refers new c x = (r.0, same c apart ∙ r.1, r.2) in
      ⊎_elim (λ e. inr ([], subst (λ y. Refers new c y) e step)) (λ rest. inr (x ∷ rest.0, (step, rest.1))) (reaches_new x via chain.1))

  -- all that are found reach the name still
  pub reaching_new : IsReaching new name found
  reaching_new = record {
    named = named;
    follows = follows_weaker (λ x y. Refers old y x) (λ x y. Refers new y x × (y ≡ name → ⊥)) (λ x. ⊥) (λ x. ⊥) found
        (λ x y c r. (r.0.0, sym (same y r.1) ∙ r.0.1, r.0.2)) (λ x d. d) closed_old;
    leads = λ a c. ⊎_elim (λ e. inl e) (λ r. reaches_new a r.0 r.1) (sound a c);
  }

  module _ (none : (c : List ℕ) → Contains (option_map_or referred b []) c → Contains found c → ⊥) where
    free : (c : List ℕ) → Refers new name c → Contains found c → ⊥
    free c r h = none c (subst (λ (o : Option Binding). Contains (option_map_or referred o []) c) (rebound_own old name b) (refers_referred new name c r)) h

    pub has_order : HasOrder new
    has_order = (_, kept_order old new name same found closed_old named live.order live.kept (distinct_once found distinct) free)

    pub settled : IsSettled new
    settled q = val_is new has_order.0 (name_order new has_order.0 has_order.1) q

    pub acyclic : IsAcyclic (Refers new)
    acyclic = acyclic_from_order new has_order.0 (name_order new has_order.0 has_order.1)

    pub closed_new : Follows (λ x y. Refers new y x) (λ x. ⊥) found
    closed_new = follows_weaker (λ x y. Refers old y x) (λ x y. Refers new y x) (λ x. ⊥) (λ x. ⊥) found
        (λ x y c r. cases_name (Refers old y x) name y (λ e. absurd (free x (subst (λ z. Refers new z x) e r) c)) (λ apart. (r.0, sym (same y apart) ∙ r.1, r.2)))
        (λ x d. d) closed_old

    -- names that reach the name are found
    reached : (q : List ℕ) (via : List (List ℕ)) → Chain (Refers new) q via name → Contains found q
    reached q [] refers = ⊎_elim (λ none. absurd none) (λ c. c) (follows_has (λ x y. Refers new y x) (λ x. ⊥) found name q closed_new named refers)
    reached q (x ∷ via) chain = ⊎_elim (λ none. absurd none) (λ c. c) (follows_has (λ x y. Refers new y x) (λ x. ⊥) found x q closed_new (reached x via chain.1) chain.0)

    -- these are the name and all that reach it
    pub all_that_reach : AreAllThatReach new name found
    all_that_reach = record {
      once = distinct;
      exact = λ q. (reaching_new.leads q, ⊎_elim (λ (e : q ≡ name). subst (λ x. Contains found x) (sym e) named) (λ (r : Reaches (Refers new) q name). reached q r.0 r.1));
    }

    -- names outside keep their values
    pub shown_still : (q : List ℕ) → (Contains found q → ⊥) → val new q ≡ val old q
    shown_still q apart = unaffected old new name same found closed_old named has_order.0 (name_order new has_order.0 has_order.1) (λ x. val_is old live.order (name_order old live.order live.kept) x) q apart

-- the table, with the references of the new binding in place of the old ones
pub table_after : {S : Type 0} (old : Names) (name : List ℕ) (b : Option Binding) (users after : List (List ℕ × Vec (List ℕ) S)) → TellsUsers old users
    → ((x y : List ℕ) → Uses bytes_eq after x y ↔ ((Uses bytes_eq users x y × ((x ≡ name) → Contains (referred_by old name) y → ⊥)) ⊎ ((x ≡ name) × Contains (option_map_or referred b []) y)))
    → TellsUsers (rebound old name b) after
table_after {S} old name b users after tells change x y = (to, from)
  where
    to : Uses bytes_eq after x y → Refers (rebound old name b) x y
    to u = cases_name (Refers (rebound old name b) x y) name x
        (λ e. ⊎_elim
        (λ l. absurd (l.1 e (refers_referred old name y (subst (λ z. Refers old z y) e ((tells x y).0 l.0)))))
        (λ r. subst (λ z. Refers (rebound old name b) z y) (sym e) (referred_refers (rebound old name b) name y (subst (λ (o : Option Binding). Contains (option_map_or referred o []) y) (sym (rebound_own old name b)) r.1))) ((change x y).0 u))
        (λ apart. ⊎_elim
        (λ l. let r = (tells x y).0 l.0 in (r.0, rebound_same old name b x apart ∙ r.1, r.2))
        (λ r. absurd (apart r.0)) ((change x y).0 u))

    from : Refers (rebound old name b) x y → Uses bytes_eq after x y
    from r = cases_name (Uses bytes_eq after x y) name x
        (λ e. (change x y).1 (inr (e, subst (λ (o : Option Binding). Contains (option_map_or referred o []) y) (rebound_own old name b) (refers_referred (rebound old name b) name y (subst (λ z. Refers (rebound old name b) z y) e r)))))
        (λ apart. (change x y).1 (inl ((tells x y).1 (r.0, sym (rebound_same old name b x apart) ∙ r.1, r.2), λ e. absurd (apart e))))

-- the table stays where the references stay
pub table_stays : {S : Type 0} (old : Names) (name : List ℕ) (b : Binding) (users : List (List ℕ × Vec (List ℕ) S)) → TellsUsers old users → referred_by old name ≡ referred b → TellsUsers (put old name b) users
table_stays {S} old name b users tells same = table_after old name (Some b) users users tells (λ x y. (
  λ u. cases_name ((Uses bytes_eq users x y × ((x ≡ name) → Contains (referred_by old name) y → ⊥)) ⊎ ((x ≡ name) × Contains (referred b) y)) name x
      (λ e. inr (e, subst (λ zs. Contains zs y) same (refers_referred old name y (subst (λ z. Refers old z y) e ((tells x y).0 u)))))
      (λ apart. inl (u, λ e. absurd (apart e))),
  ⊎_elim (λ l. l.0) (λ r. (tells x y).1 (subst (λ z. Refers old z y) (sym r.0) (referred_refers old name y (subst (λ zs. Contains zs y) (sym same) r.1)))),
))

-- and no list of it is empty, as the name is in the lists of its references
pub used_still : {S : Type 0} (old : Names) (name : List ℕ) (b : Binding) (users : List (List ℕ × Vec (List ℕ) S)) → TellsUsers old users → referred_by old name ≡ referred b
    → HasNoEmptyBut bytes_eq users (referred b) → HasNoEmptyBut bytes_eq users []
used_still old name b users tells same used y some = ⊎_elim
    (λ c. inr (name, (tells name y).1 (referred_refers old name y (subst (λ zs. Contains zs y) (sym same) c)))) (λ r. inr r) (used y some)

-- the invariant of the entries, after a change
pub live_after : {S : Type 0} (es : List (List ℕ × Entry)) (users : List (List ℕ × Vec (List ℕ) S)) (new : Names) → names_of es ≡ new → IsSheet new → HasOrder new → TellsUsers new users → HasNoEmptyBut bytes_eq users [] → IsCurrent es → IsLive es users
live_after {S} es users names is sheet order tells used current = record {
  sheet = subst IsSheet (sym is) sheet;
  order = order.0;
  kept = subst (λ (ns : Names). IsKeptOrder ns order.0) (sym is) order.1;
  tells = subst (λ (ns : Names). TellsUsers ns users) (sym is) tells;
  used = used;
  current = current;
}
