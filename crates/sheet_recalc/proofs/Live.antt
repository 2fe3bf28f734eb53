-- Entries, their names, and their values.
use Rattle.std.{proofs.Common.{◌≡◌, ℕ, zero, suc, ◌+◌, ◌-◌, ◌<◌, ◌≤◌, Bool, true, false, cond, List, [], ◌∷◌, ◌++◌, length, take, get_or, slice_get, ⊎_elim, ◌⊎◌, Option, Some, None, Ok, IsSome, is_some, refl, sym, ap, ◌∙◌, subst, arith, not, if◌then◌else◌}, specs.Str.{bytes_eq}, specs.Map.{lookup, keys_of, set_value}}
use Rattle.std.{specs.Option.{option_map, unwrap_or}, specs.List.{IsDistinct, Contains}, specs.Prelude.{Vec}, proofs.lemmas.Bool.{false≢true}, proofs.lemmas.List.{take_all, take_more, length-map, same_from_push}, proofs.lemmas.List.Elements.{Contains-push_cases}, proofs.lemmas.Map.Views.{Contains-keys_from_lookup}}
use Rattle.{indexmap.specs.IndexMap.{insert_entry, set_value_at}, arrays_core.{specs.Arrays.{ArrayValue}, specs.Outcomes.{Outcome}}}
use Rattle.dep_order.{specs.Reachability.{Chain, IsAcyclic, Reaches}, specs.Users.{Uses, EndsWith, EachFollowsUsers, HasNothing}, proofs.Following.{contains_none}}
use Rattle.formula_core.specs.Plans.{PlanValue}
use Rattle.sheet_recalc.{specs.Names.{Names, Data, binding, put, without, Refers}, specs.Meaning.{shown_beside, val, val_at}, specs.Entries.{names_of, binding_of, entry_outcome, adopting, HasData}, specs.Live.{IsRightEntry, IsCurrent, IsLive, IsReach, CanAdopt, AreRightOnceTaken, IsAdopting, entry_after, plan_in}}
use Rattle.sheet_recalc.{specs.declared.entry.Entry.{Entry}, proofs.NameEquality.{names_equal, equal-true, equal-same}, proofs.Putting.{lookup_put}, proofs.Removing.{others, lookup_others, names_of_others}}
use Rattle.sheet_recalc.specs.declared.entry.Entry.TheVariants as entry

pub binding_of_name : (es : List (List ℕ × Entry)) (q : List ℕ) → binding (names_of es) q ≡ option_map binding_of (lookup (bytes_eq q) es)
binding_of_name [] q = refl
binding_of_name (e ∷ es) q = by (bytes_eq q e.0) refl (binding_of_name es q)
  where
    by : (b : Bool) → bytes_eq q e.0 ≡ b → binding (names_of es) q ≡ option_map binding_of (lookup (bytes_eq q) es) → binding (names_of (e ∷ es)) q ≡ option_map binding_of (lookup (bytes_eq q) (e ∷ es))
    by true is rest = rw is refl
    by false is rest = rw is rest

-- a name is present where it has an entry
pub present_name : (es : List (List ℕ × Entry)) (name : List ℕ) → IsSome (lookup (bytes_eq name) es) → IsSome (binding (names_of es) name)
present_name es name h = rw (binding_of_name es name) (some_map (lookup (bytes_eq name) es) h)
  where
    some_map : (o : Option Entry) → IsSome o → IsSome (option_map binding_of o)
    some_map None h = absurd (false≢true h)
    some_map (Some e) h = refl

pub absent_name : (es : List (List ℕ × Entry)) (name : List ℕ) → false ≡ is_some (lookup (bytes_eq name) es) → binding (names_of es) name ≡ None
absent_name es name h = binding_of_name es name ∙ ap (option_map binding_of) (none_there (lookup (bytes_eq name) es) h)
  where
    none_there : (o : Option Entry) → false ≡ is_some o → o ≡ None
    none_there None h = refl
    none_there (Some x) h = absurd (false≢true h)

pub keys_of_names : (es : List (List ℕ × Entry)) → keys_of (names_of es) ≡ keys_of es
keys_of_names [] = refl
keys_of_names (e ∷ es) = ap (λ ks. e.0 ∷ ks) (keys_of_names es)

pub names_of_insert : (name : List ℕ) (v : Entry) (es : List (List ℕ × Entry)) → names_of (insert_entry bytes_eq es name v) ≡ insert_entry bytes_eq (names_of es) name (binding_of v)
names_of_insert name v [] = refl
names_of_insert name v (e ∷ es) = by (bytes_eq name e.0) refl (names_of_insert name v es)
  where
    by : (b : Bool) → bytes_eq name e.0 ≡ b → names_of (insert_entry bytes_eq es name v) ≡ insert_entry bytes_eq (names_of es) name (binding_of v)
        → names_of (insert_entry bytes_eq (e ∷ es) name v) ≡ insert_entry bytes_eq (names_of (e ∷ es)) name (binding_of v)
    by true is rest = rw is refl
    by false is rest = rw is (ap (λ ns. (e.0, binding_of e.1) ∷ ns) rest)

-- a value that is written under a name that is present is put there
pub set_is_put : (name : List ℕ) (v : Entry) (es : List (List ℕ × Entry)) → IsSome (lookup (bytes_eq name) es) → set_value (bytes_eq name) es v ≡ insert_entry bytes_eq es name v
set_is_put name v [] h = absurd (false≢true h)
set_is_put name v (e ∷ es) h = by (bytes_eq name e.0) refl (set_is_put name v es) h
  where
    by : (b : Bool) → bytes_eq name e.0 ≡ b → (IsSome (lookup (bytes_eq name) es) → set_value (bytes_eq name) es v ≡ insert_entry bytes_eq es name v)
        → IsSome (lookup (bytes_eq name) (e ∷ es)) → set_value (bytes_eq name) (e ∷ es) v ≡ insert_entry bytes_eq (e ∷ es) name v
    by true is rest h = rw is refl
    by false is rest h = let there : IsSome (lookup (bytes_eq name) es) = rw is at h in rw is (ap (λ fs. e ∷ fs) (rest there))

-- data that is edited in place is put there
pub edited_in_place : (name : List ℕ) (es after : List (List ℕ × Entry)) (a b : ArrayValue) (e new : Entry) → HasData es name a → Some e ≡ lookup (bytes_eq name) es → (e ≡ entry.Data a → new ≡ entry.Data b)
    → after ≡ set_value (bytes_eq name) es new → after ≡ insert_entry bytes_eq es name (entry.Data b)
edited_in_place name es after a b e new held there edits wrote =
    let both : Some e ≡ Some (entry.Data a) = there ∙ held in
    let this : e ≡ entry.Data a = cc in
    wrote ∙ (ap (set_value (bytes_eq name) es) (edits this) ∙ set_is_put name (entry.Data b) es (subst (λ o. IsSome o) (sym held) refl))

adopting_binding : (e : Entry) (p : PlanValue) → binding_of (adopting e p) ≡ binding_of e
adopting_binding (entry.Data a) p = refl
adopting_binding (entry.Formula f) p = refl

-- an entry that takes a plan keeps its binding
pub names_of_adopting : (name : List ℕ) (p : PlanValue) (found : Entry) (es : List (List ℕ × Entry)) → lookup (bytes_eq name) es ≡ Some found → names_of (set_value (bytes_eq name) es (adopting found p)) ≡ names_of es
names_of_adopting name p found [] h = refl
names_of_adopting name p found (e ∷ es) h = by (bytes_eq name e.0) refl (names_of_adopting name p found es)
  where
    by : (b : Bool) → bytes_eq name e.0 ≡ b → (lookup (bytes_eq name) es ≡ Some found → names_of (set_value (bytes_eq name) es (adopting found p)) ≡ names_of es)
        → names_of (set_value (bytes_eq name) (e ∷ es) (adopting found p)) ≡ names_of (e ∷ es)
    by true is rest =
        let same : Some e.1 ≡ Some found = rw is at h in
        let this : e.1 ≡ found = cc in
        rw is (ap (λ b. (e.0, b) ∷ names_of es) (adopting_binding found p ∙ ap binding_of (sym this)))
    by false is rest =
        let there : lookup (bytes_eq name) es ≡ Some found = rw is at h in
        rw is (ap (λ ns. (e.0, binding_of e.1) ∷ ns) (rest there))

-- so does one that stands at a place
pub names_of_adopting_at : (p : PlanValue) (found : Entry) (k : List ℕ) (es : List (List ℕ × Entry)) (i : ℕ) → slice_get es i ≡ Some (k, found) → names_of (set_value_at es i (adopting found p)) ≡ names_of es
names_of_adopting_at p found k [] i h = let never : None ≡ Some (k, found) = h in absurd cc
names_of_adopting_at p found k (e ∷ es) zero h =
    let same : e ≡ (k, found) = cc in
    ap (λ b. (e.0, b) ∷ names_of es) (adopting_binding found p ∙ ap (λ (x : List ℕ × Entry). binding_of x.1) (sym same))
names_of_adopting_at p found k (e ∷ es) (suc i) h = ap (λ ns. (e.0, binding_of e.1) ∷ ns) (names_of_adopting_at p found k es i h)

-- a name bound to data shows it
pub val_data : (names : Names) (q : List ℕ) (a : ArrayValue) → binding names q ≡ Some (Data a) → val names q ≡ Ok a
val_data [] q a h = let never : None ≡ Some (Data a) = h in absurd cc
val_data (e ∷ es) q a h = ap (λ b. shown_beside q b (val_at (length es) (e ∷ es))) h

pub live_none : {S : Type 0} → IsLive {S = S} [] []
unfolding IsDistinct
live_none = record {
  sheet = record { distinct = tt; acyclic = never; few = omega arith };
  order = [];
  kept = record { all = λ a h. absurd (false≢true h); present = λ a c. absurd (contains_none a c); once = tt; follows = tt };
  tells = λ a b. (λ c. absurd (contains_none a c), λ r. absurd (false≢true (ap is_some r.1)));
  used = λ b h. absurd (false≢true h);
  current = λ q e h. absurd (false≢true (ap is_some h));
}
  where
    never : IsAcyclic (Refers [])
    never a r = by r.0 r.1
      where
        by : (via : List (List ℕ)) → Chain (Refers []) a via a → ⊥
        by [] c = false≢true (ap is_some c.1)
        by (x ∷ xs) c = false≢true (ap is_some c.0.1)

pub live_empty : {S : Type 0} (es : List (List ℕ × Entry)) (users : List (List ℕ × Vec (List ℕ) S)) → es ≡ [] → users ≡ [] → IsLive es users
live_empty {S} es users none empty =
    subst (λ (fs : List (List ℕ × Entry)). IsLive fs users) (sym none) (subst (λ (us : List (List ℕ × Vec (List ℕ) S)). IsLive [] us) (sym empty) (live_none {S = S}))

-- a right entry has the value of its name
pub right_shows : (names : List ℕ → Outcome) (q : List ℕ) (e : Entry) → IsRightEntry names q e → entry_outcome q e ≡ names q
right_shows names q (entry.Data a) right = right
right_shows names q (entry.Formula f) right = right.1

-- the answer of `value`
pub value_is : (es : List (List ℕ × Entry)) → IsCurrent es → (q : List ℕ) (o : Option Entry) → o ≡ lookup (bytes_eq q) es
    → option_map (entry_outcome q) o ≡ (if is_some (binding (names_of es) q) then Some (val (names_of es) q) else None)
value_is es current q (Some e) is = rw (binding_of_name es q, ← is) (ap Some (right_shows (val (names_of es)) q e (current q e (sym is))))
value_is es current q None is = rw (binding_of_name es q, ← is) refl

-- the plan beside each name, once one is put beside one of them, or taken from there
pub put_beside : (es new : List (List ℕ × Option PlanValue)) (k : List ℕ) (p : Option PlanValue) → ((q : List ℕ) → lookup (bytes_eq q) new ≡ cond (bytes_eq k q) (Some p) (lookup (bytes_eq q) es))
    → (q : List ℕ) → plan_in new q ≡ cond (bytes_eq k q) p (plan_in es q)
put_beside es new k p put q = ap (λ o. unwrap_or o None) (put q) ∙ by (bytes_eq k q)
  where
    by : (t : Bool) → unwrap_or (cond t (Some p) (lookup (bytes_eq q) es)) None ≡ cond t p (plan_in es q)
    by true = refl
    by false = refl

-- ---- plans are taken one after another

-- with no plan, the plans stay the same
pub adopting_same : (names : Names) (es : List (List ℕ × Entry)) (plans plans' : List ℕ → Option PlanValue) (name : List ℕ) → plans name ≡ None → ((q : List ℕ) → plans' q ≡ cond (bytes_eq name q) None (plans q))
    → IsAdopting names es plans → IsAdopting names es plans'
adopting_same names es plans plans' name none taken now = record {
  names_are = now.names_are;
  can = λ q e p there plan. now.can q e p there (same q ∙ plan);
  right = λ q e p there plan. now.right q e p there (same q ∙ plan);
  rest = λ q e there plan. now.rest q e there (same q ∙ plan);
}
  where
    same : (q : List ℕ) → plans q ≡ plans' q
    same q = by (bytes_eq name q) refl
      where
        by : (t : Bool) → bytes_eq name q ≡ t → plans q ≡ plans' q
        by true is = ap plans (sym (equal-true name q is)) ∙ (none ∙ sym (taken q ∙ ap (λ t. cond t None (plans q)) is))
        by false is = sym (taken q ∙ ap (λ t. cond t None (plans q)) is)

-- a plan is taken
module _ (names : Names) (es es' : List (List ℕ × Entry)) (plans plans' : List ℕ → Option PlanValue) (name : List ℕ) (p : PlanValue)
    (this_plan : plans name ≡ Some p) (taken : (q : List ℕ) → plans' q ≡ cond (bytes_eq name q) None (plans q)) (now : IsAdopting names es plans) where
  -- a plan that is left is of another name
  other_left : (q : List ℕ) (r : PlanValue) → plans' q ≡ Some r → bytes_eq name q ≡ false
  other_left q r h = by (bytes_eq name q) refl
    where
      by : (b : Bool) → bytes_eq name q ≡ b → bytes_eq name q ≡ false
      by true is = let never : None ≡ Some r = rw is at (sym (taken q) ∙ h) in absurd cc
      by false is = is

  was_left : (q : List ℕ) (o : Option PlanValue) → bytes_eq name q ≡ false → plans' q ≡ o → plans q ≡ o
  was_left q o is h = rw is at (sym (taken q) ∙ h)

  -- by its entry
  module _ (e : Entry) (found : lookup (bytes_eq name) es ≡ Some e) where
    pub can_now : CanAdopt e p
    can_now = now.can name e p found this_plan

    module _ (written : names_of es' ≡ names_of es)
        (changed : (q : List ℕ) → lookup (bytes_eq q) es' ≡ cond (bytes_eq name q) (Some (adopting e p)) (lookup (bytes_eq q) es)) where
      was_there : (q : List ℕ) (f : Entry) → bytes_eq name q ≡ false → lookup (bytes_eq q) es' ≡ Some f → lookup (bytes_eq q) es ≡ Some f
      was_there q f is h = rw is at (sym (changed q) ∙ h)

      pub adopting_some : IsAdopting names es' plans'
      adopting_some = record {
        names_are = written ∙ now.names_are;
        can = λ q f r there left. let is = other_left q r left in now.can q f r (was_there q f is there) (was_left q (Some r) is left);
        right = λ q f r there left. let is = other_left q r left in now.right q f r (was_there q f is there) (was_left q (Some r) is left);
        rest = rest;
      }
        where
          rest : (q : List ℕ) (f : Entry) → lookup (bytes_eq q) es' ≡ Some f → plans' q ≡ None → IsRightEntry (val names) q f
          rest q f there none = by (bytes_eq name q) refl
            where
              by : (b : Bool) → bytes_eq name q ≡ b → IsRightEntry (val names) q f
              by true is =
                  let same : Some (adopting e p) ≡ Some f = rw is at (sym (changed q) ∙ there) in
                  let this : adopting e p ≡ f = cc in
                  subst (λ (g : Entry). IsRightEntry (val names) q g) this (subst (λ n. IsRightEntry (val names) n (adopting e p)) (equal-true name q is) (now.right name e p found this_plan))
              by false is = now.rest q f (was_there q f is there) (was_left q None is none)

  -- by none, where the name has no entry
  module _ (absent : lookup (bytes_eq name) es ≡ None) (kept : es' ≡ es) where
    still : (q : List ℕ) (f : Entry) → lookup (bytes_eq q) es' ≡ Some f → lookup (bytes_eq q) es ≡ Some f
    still q f h = ap (λ xs. lookup (bytes_eq q) xs) (sym kept) ∙ h

    pub adopting_none : IsAdopting names es' plans'
    adopting_none = record {
      names_are = ap names_of kept ∙ now.names_are;
      can = λ q f r there left. now.can q f r (still q f there) (was_left q (Some r) (other_left q r left) left);
      right = λ q f r there left. now.right q f r (still q f there) (was_left q (Some r) (other_left q r left) left);
      rest = rest;
    }
      where
        rest : (q : List ℕ) (f : Entry) → lookup (bytes_eq q) es' ≡ Some f → plans' q ≡ None → IsRightEntry (val names) q f
        rest q f there none = by (bytes_eq name q) refl
          where
            by : (b : Bool) → bytes_eq name q ≡ b → IsRightEntry (val names) q f
            by true is =
                let never : None ≡ Some f = sym absent ∙ (subst (λ n. lookup (bytes_eq n) es ≡ Some f) (sym (equal-true name q is)) (still q f there)) in absurd cc
            by false is = now.rest q f (still q f there) (was_left q None is none)

-- by its entry, or by none
pub adopting_either : (names : Names) (es es' : List (List ℕ × Entry)) (plans plans' : List ℕ → Option PlanValue) (name : List ℕ) (p : PlanValue)
    → plans name ≡ Some p → ((q : List ℕ) → plans' q ≡ cond (bytes_eq name q) None (plans q)) → IsAdopting names es plans
    → ((e : Entry) → lookup (bytes_eq name) es ≡ Some e → (names_of es' ≡ names_of es) × ((q : List ℕ) → lookup (bytes_eq q) es' ≡ cond (bytes_eq name q) (Some (adopting e p)) (lookup (bytes_eq q) es)))
    → (lookup (bytes_eq name) es ≡ None → es' ≡ es) → IsAdopting names es' plans'
adopting_either names es es' plans plans' name p this taken now present absent = by (lookup (bytes_eq name) es) refl
  where
    by : (o : Option Entry) → lookup (bytes_eq name) es ≡ o → IsAdopting names es' plans'
    by (Some e) is = adopting_some names es es' plans plans' name p this taken now e is (present e is).0 (present e is).1
    by None is = adopting_none names es es' plans plans' name p this taken now is (absent is)

-- the plans are taken down to a place: names at it or behind have none
pub record AreTaken (names : Names) (es : List (List ℕ × Entry)) (found : List (List ℕ × Option PlanValue)) (place : ℕ) : Type 0 where
  pub within : place ≤ length found
  pub adopting : IsAdopting names es (plan_in found)
  pub rest : (q : List ℕ) → (Contains (take place (keys_of found)) q → ⊥) → plan_in found q ≡ None

-- in the beginning none is
pub taken_first : (names : Names) (es : List (List ℕ × Entry)) (found : List (List ℕ × Option PlanValue)) (n : ℕ) → n ≡ length found → IsAdopting names es (plan_in found) → AreTaken names es found n
taken_first names es found n is now = record {
  within = omega (arith, is);
  adopting = now;
  rest = λ q apart. by q (λ c. apart (subst (λ ks. Contains ks q) (sym (take_all n (keys_of found) (omega (arith, is, length-map found (λ (e : List ℕ × Option PlanValue). e.0))))) c)) (lookup (bytes_eq q) found) refl;
}
  where
    by : (q : List ℕ) → (Contains (keys_of found) q → ⊥) → (o : Option (Option PlanValue)) → lookup (bytes_eq q) found ≡ o → plan_in found q ≡ None
    by q apart None is = ap (λ o. unwrap_or o None) is
    by q apart (Some v) is = absurd (apart (Contains-keys_from_lookup equal-true q found (ap is_some is)))

-- the name at a place
abbrev name_before : List (List ℕ × Option PlanValue) → ℕ → List ℕ
name_before found place = get_or (keys_of found) (place - 1) []

-- then one after another
pub taken_next : (names : Names) (es es' : List (List ℕ × Entry)) (found found' : List (List ℕ × Option PlanValue)) (place : ℕ) → 0 < place → keys_of found' ≡ keys_of found
    → ((q : List ℕ) → plan_in found' q ≡ cond (bytes_eq (name_before found place) q) None (plan_in found q))
    → IsAdopting names es' (plan_in found') → AreTaken names es found place → AreTaken names es' found' (place - 1)
taken_next names es es' found found' place some keys taken now before = record {
  within = omega (arith, before.within, length-map found (λ (e : List ℕ × Option PlanValue). e.0), length-map found' (λ (e : List ℕ × Option PlanValue). e.0), ap length keys);
  adopting = now;
  rest = λ q apart. taken q ∙ by q apart (bytes_eq (name_before found place) q) refl;
}
  where
    more : take place (keys_of found) ≡ take (place - 1) (keys_of found) ++ name_before found place ∷ []
    more =
        let next : place ≡ place - 1 + 1 = omega (arith, some) in
        ap (λ n. take n (keys_of found)) next ∙ take_more (keys_of found) (place - 1) [] (omega (arith, some, before.within, length-map found (λ (e : List ℕ × Option PlanValue). e.0)))

    by : (q : List ℕ) → (Contains (take (place - 1) (keys_of found')) q → ⊥) → (t : Bool) → bytes_eq (name_before found place) q ≡ t → cond t None (plan_in found q) ≡ None
    by q apart true is = refl
    by q apart false is =
        before.rest q (λ c. ⊎_elim
        (λ front. apart (subst (λ ks. Contains (take (place - 1) ks) q) (sym keys) front))
        (λ last. false≢true (sym is ∙ equal-same (name_before found place) q last))
        (Contains-push_cases (take (place - 1) (keys_of found)) (name_before found place) q (subst (λ ks. Contains ks q) more c)))

-- in the end each entry is right
pub current_at_end : (names : Names) (es : List (List ℕ × Entry)) (found : List (List ℕ × Option PlanValue)) (place : ℕ) → place ≡ 0 → AreTaken names es found place → IsCurrent es
current_at_end names es found place end now = λ q e h.
    subst (λ ns. IsRightEntry (val ns) q e) (sym now.adopting.names_are) (now.adopting.rest q e h (now.rest q (subst (λ n. Contains (take n (keys_of found)) q → ⊥) (sym end) (contains_none q))))

-- and no plan is left
pub nothing_at_end : (names : Names) (es : List (List ℕ × Entry)) (found : List (List ℕ × Option PlanValue)) (place : ℕ) → place ≡ 0 → AreTaken names es found place → HasNothing bytes_eq found
nothing_at_end names es found place end now = λ a v there. sym (ap (λ o. unwrap_or o None) there) ∙ now.rest a (subst (λ n. Contains (take n (keys_of found)) a → ⊥) (sym end) (contains_none a))

-- the reach of a name stays while the table and the found names stay
pub reach_kept : {S : Type 0} (users users' : List (List ℕ × Vec (List ℕ) S)) (name : List ℕ) (found found' : List (List ℕ × Option PlanValue))
    → users' ≡ users → keys_of found' ≡ keys_of found → HasNothing bytes_eq found' → IsReach users name found → IsReach users' name found'
reach_kept {S} users users' name found found' same keys none reach =
    let back = sym keys in
    record {
      distinct = subst (λ ks. IsDistinct bytes_eq ks) back reach.distinct;
      closed = subst (λ ks. EachFollowsUsers bytes_eq users' ks) back (subst (λ us. EachFollowsUsers bytes_eq us (keys_of found)) (sym same) reach.closed);
      named = subst (λ ks. Contains ks name) back reach.named;
      sound = λ a there. subst (λ us. (a ≡ name) ⊎ Reaches (Uses bytes_eq us) a name) (sym same) (reach.sound a (subst (λ ks. Contains ks a) keys there));
      none = none;
    }

-- where one name is found, no plan stands beside another
pub none_beside : (found : List (List ℕ × Option PlanValue)) (only name : List ℕ) → length (keys_of found) ≡ 1 → only ≡ get_or (keys_of found) 0 only → not (bytes_eq name only) ≡ true → plan_in found name ≡ None
none_beside [] only name one is apart = absurd (omega (arith, one))
none_beside (e ∷ []) only name one is apart = by (bytes_eq name e.0) refl (subst (λ (q : List ℕ). not (bytes_eq name q) ≡ true) is apart)
  where
    by : (t : Bool) → bytes_eq name e.0 ≡ t → not (bytes_eq name e.0) ≡ true → plan_in (e ∷ []) name ≡ None
    by true same other = let never : false ≡ true = rw same at other in absurd (false≢true never)
    by false same other = rw same refl
none_beside (e ∷ f ∷ found) only name one is apart = absurd (omega (arith, one))

-- a list ends with the name that stands last
pub ends_with_last : (names : List (List ℕ)) (name : List ℕ) → Some name ≡ slice_get names (length names - 1) → EndsWith names name
ends_with_last [] name is = let never : Some name ≡ None = is in absurd cc
ends_with_last (x ∷ []) name is = let same : Some name ≡ Some x = is in let this : name ≡ x = cc in ([], subst (λ (q : List ℕ). x ∷ [] ≡ q ∷ []) (sym this) refl)
ends_with_last (x ∷ y ∷ names) name is =
    let here : length (x ∷ y ∷ names) - 1 ≡ suc (length names) = omega arith in
    let behind : length (y ∷ names) - 1 ≡ length names = omega arith in
    let there : Some name ≡ slice_get (y ∷ names) (length names) = rw here at is in
    let rest = ends_with_last (y ∷ names) name (rw behind there) in
    (x ∷ rest.0, ap (λ (xs : List (List ℕ)). x ∷ xs) rest.1)

-- the last name of a list is one
ends_once : (names : List (List ℕ)) (a b : List ℕ) → EndsWith names a → EndsWith names b → b ≡ a
ends_once names a b one other = sym (same_from_push one.0 other.0 a b (sym one.1 ∙ other.1)).1

-- after an edit of the last name its reach is known
pub reached_after : {S : Type 0} (users : List (List ℕ × Vec (List ℕ) S)) (name : List ℕ) (found : List (List ℕ × Option PlanValue)) (edited : Bool)
    → (edited ≡ true → EndsWith (keys_of found) name × IsReach users name found) → edited ≡ true → (n : List ℕ) → EndsWith (keys_of found) n → IsReach users n found
reached_after users name found edited known is n ends =
    let there = known is in
    subst (λ q. IsReach users q found) (sym (ends_once (keys_of found) name n there.0 ends)) there.1

-- ---- plans that were made for entries after a change can be taken by these

pub adopting_after : (es after : List (List ℕ × Entry)) (name : List ℕ) (own : Option Entry) (names : Names) (plans : List ℕ → Option PlanValue)
    → names_of after ≡ names → ((q : List ℕ) → lookup (bytes_eq q) after ≡ entry_after es name own q) → AreRightOnceTaken es name own names plans → IsAdopting names after plans
adopting_after es after name own names plans is same planned = record {
  names_are = is;
  can = λ q e p there plan. planned.can q e p (sym (same q) ∙ there) plan;
  right = λ q e p there plan. planned.right q e p (sym (same q) ∙ there) plan;
  rest = λ q e there none. planned.rest q e (sym (same q) ∙ there) none;
}

-- after the name is rebound
pub adopting_planned : (es : List (List ℕ × Entry)) (name : List ℕ) (own : Entry) (plans : List ℕ → Option PlanValue)
    → AreRightOnceTaken es name (Some own) (put (names_of es) name (binding_of own)) plans
    → IsAdopting (put (names_of es) name (binding_of own)) (insert_entry bytes_eq es name own) plans
adopting_planned es name own plans =
    adopting_after es (insert_entry bytes_eq es name own) name (Some own) (put (names_of es) name (binding_of own)) plans (names_of_insert name own es)
    (λ q. lookup_put name own es q ∙ ap (λ (t : Bool). cond t (Some own) (lookup (bytes_eq q) es)) (names_equal.symm name q))

-- after its data is edited in place
pub adopting_edited : (es after : List (List ℕ × Entry)) (name : List ℕ) (own : Entry) (plans : List ℕ → Option PlanValue) → after ≡ insert_entry bytes_eq es name own
    → AreRightOnceTaken es name (Some own) (put (names_of es) name (binding_of own)) plans → IsAdopting (names_of after) after plans
adopting_edited es after name own plans is planned =
    let put_in = subst (λ (ns : Names). IsAdopting ns (insert_entry bytes_eq es name own) plans) (sym (names_of_insert name own es)) (adopting_planned es name own plans planned) in
    subst (λ (fs : List (List ℕ × Entry)). IsAdopting (names_of fs) fs plans) (sym is) put_in

-- once the name is removed
pub adopting_removed : (es : List (List ℕ × Entry)) (name : List ℕ) (plans : List ℕ → Option PlanValue)
    → AreRightOnceTaken es name None (without (names_of es) name) plans → IsAdopting (without (names_of es) name) (others name es) plans
adopting_removed es name plans =
    adopting_after es (others name es) name None (without (names_of es) name) plans (names_of_others name es)
    (λ q. lookup_others name es q ∙ ap (λ (t : Bool). cond t None (lookup (bytes_eq q) es)) (names_equal.symm name q))
