-- Writing one list of the table.
use Rattle.std.{proofs.Common.{◌≡◌, ◌≢◌, ℕ, ◌+◌, ◌<◌, ◌⊎◌, ◌↔◌, inl, inr, Bool, true, false, cond, List, [], ◌∷◌, ◌++◌, take, length, get_or, Option, Some, IsSome, refl, sym, ap, ◌∙◌, subst, ⊎_elim}, specs.Prelude.{Vec, filter, not}, specs.Cmp.{IsEquivalence}, specs.Map.{lookup}, specs.List.{Contains}}
use Rattle.std.{specs.Option.{unwrap_or, option_map}, proofs.lemmas.Bool.{false≢true, false_from_ne_true, cond-false}, proofs.lemmas.List.{take_more}, proofs.lemmas.List.Elements.{Contains-append_left, Contains-append_right, Contains-append_cases}}
use Rattle.dep_order.{specs.Users.{Uses, users_of, IsExact, HasRoomFor, IsReady, IsReadyFor, EndsWith, HasNoEmptyBut, TakesOneMore}, proofs.Following.{contains_here, contains_there, contains_one, contains_cases, contains_none}}

-- a list written over a table equals one written over an equal table
pub written_over : {N S : Type 0} (eq : N → N → Bool) (lent before after : List (N × Vec N S)) (reference : N) (list : Vec N S) → lent ≡ before
    → ((q : N) → lookup (eq q) after ≡ cond (eq reference q) (Some list) (lookup (eq q) lent)) → (q : N) → lookup (eq q) after ≡ cond (eq reference q) (Some list) (lookup (eq q) before)
written_over {N} {S} eq lent before after reference list is =
    subst (λ (table : List (N × Vec N S)). (q : N) → lookup (eq q) after ≡ cond (eq reference q) (Some list) (lookup (eq q) table)) is

module _ {N : Type 0} (eq : N → N → Bool) (laws : IsEquivalence eq) (exact : IsExact eq) where
  pub same_eq : (a b : N) → a ≡ b → eq a b ≡ true
  same_eq a b e = subst (λ c. eq a c ≡ true) e (laws.refl a)

  -- a node is this one, or another
  pub cases_node : (P : Type 0) (node q : N) → (q ≡ node → P) → (q ≢ node → P) → P
  cases_node P node q same apart = by (eq q node) refl
    where
      by : (t : Bool) → eq q node ≡ t → P
      by true e = same (exact q node e)
      by false e = apart (λ is. false≢true (sym e ∙ same_eq q node is))

  -- filtering a node out of a list keeps just the other nodes
  pub others : (node : N) (xs : List N) (a : N) → Contains (filter (λ other. not (eq other node)) xs) a ↔ (Contains xs a × ((a ≡ node) → ⊥))
  others node [] a = ((λ c. absurd (contains_none a c)), (λ p. p.0))
  others node (x ∷ xs) a = by (eq x node) refl (others node xs a)
    where
      by : (t : Bool) → eq x node ≡ t → Contains (filter (λ other. not (eq other node)) xs) a ↔ (Contains xs a × ((a ≡ node) → ⊥))
          → Contains (filter (λ other. not (eq other node)) (x ∷ xs)) a ↔ (Contains (x ∷ xs) a × ((a ≡ node) → ⊥))
      by true is rest = rw is (
        (λ c. (contains_there x xs a (rest.0 c).0, (rest.0 c).1)),
        (λ p. ⊎_elim (λ e. absurd (p.1 (e ∙ exact x node is))) (λ l. rest.1 (l, p.1)) (contains_cases x xs a p.0)),
      )
      by false is rest = rw is (
        (λ c. ⊎_elim
            (λ e. (subst (λ y. Contains (x ∷ xs) y) (sym e) (contains_here x xs), λ f. false≢true (sym is ∙ same_eq x node (sym e ∙ f))))
            (λ l. (contains_there x xs a (rest.0 l).0, (rest.0 l).1)) (contains_cases x (filter (λ other. not (eq other node)) xs) a c)),
        (λ p. ⊎_elim (λ e. subst (λ y. Contains (x ∷ filter (λ other. not (eq other node)) xs) y) (sym e) (contains_here x (filter (λ other. not (eq other node)) xs)))
            (λ l. contains_there x (filter (λ other. not (eq other node)) xs) a (rest.1 (l, p.1))) (contains_cases x xs a p.0)),
      )

  module _ {S : Type 0} (before after : List (N × Vec N S)) (reference : N) (list : Vec N S)
      (change : (q : N) → lookup (eq q) after ≡ cond (eq reference q) (Some list) (lookup (eq q) before)) where
    own : (b : N) → b ≡ reference → lookup (eq b) after ≡ Some list
    own b e = change b ∙ rw (same_eq reference b (sym e)) refl

    other : (b : N) → b ≢ reference → lookup (eq b) after ≡ lookup (eq b) before
    other b apart = change b ∙ cond-false _ _ _ (false_from_ne_true _ (λ e. apart (sym (exact reference b e))))

    abbrev keys_in : Option (Vec N S) → List N
    keys_in o = unwrap_or (option_map (λ (s : Vec N S). s.items) o) []

    own_users : (b : N) → b ≡ reference → users_of eq after b ≡ list.items
    own_users b e = ap keys_in (own b e)

    other_users : (b : N) → b ≢ reference → users_of eq after b ≡ users_of eq before b
    other_users b apart = ap keys_in (other b apart)

    pub written_uses : (P : N → N → Type 0) → ((a : N) → Contains list.items a ↔ P a reference) → ((a b : N) → b ≢ reference → Uses eq before a b ↔ P a b) → (a b : N) → Uses eq after a b ↔ P a b
    written_uses P here there a b = cases_node (Uses eq after a b ↔ P a b) reference b
        (λ e. (
          (λ u. subst (λ y. P a y) (sym e) ((here a).0 (subst (λ ks. Contains ks a) (own_users b e) u))),
          (λ p. subst (λ ks. Contains ks a) (sym (own_users b e)) ((here a).1 (subst (λ y. P a y) e p))),
        ))
        (λ apart. (
          (λ u. (there a b apart).0 (subst (λ ks. Contains ks a) (other_users b apart) u)),
          (λ p. subst (λ ks. Contains ks a) (sym (other_users b apart)) ((there a b apart).1 p)),
        ))

    pub same_lists : list.items ≡ users_of eq before reference → (b : N) → users_of eq after b ≡ users_of eq before b
    same_lists is b = cases_node (users_of eq after b ≡ users_of eq before b) reference b (λ e. own_users b e ∙ (is ∙ ap (users_of eq before) (sym e))) (λ apart. other_users b apart)

    pub room_written : TakesOneMore list → (references : List N) → HasRoomFor eq before references → HasRoomFor eq after references
    room_written some references room b c = cases_node ((s : Vec N S) × (lookup (eq b) after ≡ Some s) × TakesOneMore s) reference b
        (λ e. (list, own b e, some))
        (λ apart. let r = room b c in (r.0, other b apart ∙ r.1, r.2))

    pub room_here : TakesOneMore list → HasRoomFor eq after (reference ∷ [])
    room_here some b c = (list, own b (contains_one reference b c), some)

    pub room_kept : (old : Vec N S) → lookup (eq reference) before ≡ Some old → (TakesOneMore old → TakesOneMore list) → (references : List N) → HasRoomFor eq before references → HasRoomFor eq after references
    room_kept old found more references room b c = cases_node ((s : Vec N S) × (lookup (eq b) after ≡ Some s) × TakesOneMore s) reference b
        (λ e.
        let r = room b c in
        let same : Some r.0 ≡ Some old = sym r.1 ∙ (ap (λ y. lookup (eq y) before) e ∙ found) in
        let this : r.0 ≡ old = cc in
        (list, own b e, more (subst (λ (s : Vec N S). TakesOneMore s) this r.2)))
        (λ apart. let r = room b c in (r.0, other b apart ∙ r.1, r.2))

    pub ready_written : (node : N) → EndsWith list.items node → (references : List N) → IsReadyFor eq before node references → IsReadyFor eq after node references
    ready_written node has references ready b c = cases_node ((s : Vec N S) × (lookup (eq b) after ≡ Some s) × IsReady s node) reference b
        (λ e. (list, own b e, inr has))
        (λ apart. let r = ready b c in (r.0, other b apart ∙ r.1, r.2))

    -- the written list is not empty, or is the list of one of these nodes
    pub used_written : (references : List N) → Contains references reference ⊎ ((a : N) × Contains list.items a) → HasNoEmptyBut eq before references → HasNoEmptyBut eq after references
    used_written references here used b there = cases_node (Contains references b ⊎ ((a : N) × Uses eq after a b)) reference b
        (λ e. ⊎_elim (λ l. inl (subst (λ y. Contains references y) (sym e) l)) (λ r. inr (r.0, subst (λ ks. Contains ks r.0) (sym (own_users b e)) r.1)) here)
        (λ apart. ⊎_elim (λ l. inl l) (λ r. inr (r.0, subst (λ ks. Contains ks r.0) (sym (other_users b apart)) r.1)) (used b (subst (λ o. IsSome o) (other b apart) there)))

    module _ (old : Vec N S) (found : lookup (eq reference) before ≡ Some old) where
      pub old_users : users_of eq before reference ≡ old.items
      old_users = ap keys_in found

      pub note_uses : (node : N) → ((a : N) → Contains list.items a ↔ (Contains old.items a ⊎ (a ≡ node))) → (a b : N) → Uses eq after a b ↔ (Uses eq before a b ⊎ ((a ≡ node) × (b ≡ reference)))
      note_uses node is = written_uses (λ a b. Uses eq before a b ⊎ ((a ≡ node) × (b ≡ reference)))
          (λ a. (
            (λ c. ⊎_elim (λ l. inl (subst (λ ks. Contains ks a) (sym old_users) l)) (λ e. inr (e, refl)) ((is a).0 c)),
            (λ p. (is a).1 (⊎_elim (λ l. inl (subst (λ ks. Contains ks a) old_users l)) (λ r. inr r.0) p)),
          ))
          (λ a b apart. ((λ u. inl u), (λ p. ⊎_elim (λ l. l) (λ r. absurd (apart r.1)) p)))

      pub forget_uses : (node : N) → list.items ≡ filter (λ other. not (eq other node)) old.items → (a b : N) → Uses eq after a b ↔ (Uses eq before a b × ((a ≡ node) → (b ≡ reference) → ⊥))
      forget_uses node is = written_uses (λ a b. Uses eq before a b × ((a ≡ node) → (b ≡ reference) → ⊥))
          (λ a. (
            (λ c. let o = (others node old.items a).0 (subst (λ ks. Contains ks a) is c) in (subst (λ ks. Contains ks a) (sym old_users) o.0, λ e f. o.1 e)),
            (λ p. subst (λ ks. Contains ks a) (sym is) ((others node old.items a).1 (subst (λ ks. Contains ks a) old_users p.0, λ e. p.1 e refl))),
          ))
          (λ a b apart. ((λ u. (u, λ e f. apart f)), (λ p. p.0)))

  -- a list that is not empty may stay
  pub used_kept : {S : Type 0} (table : List (N × Vec N S)) (reference x : N) → Uses eq table x reference → (rest : List N) → HasNoEmptyBut eq table (reference ∷ rest) → HasNoEmptyBut eq table rest
  used_kept table reference x uses rest used b there = ⊎_elim
      (λ c. ⊎_elim (λ is. inr (x, subst (λ y. Uses eq table x y) (sym is) uses)) (λ r. inl r) (contains_cases reference rest b c))
      (λ r. inr r) (used b there)

module _ {N : Type 0} where
  pub some_of : (xs : List N) → (length xs ≡ 0 → ⊥) → (x : N) × Contains xs x
  some_of [] none = absurd (none refl)
  some_of (x ∷ xs) none = (x, contains_here x xs)

  -- one more element of a list
  pub one_more : (xs : List N) (i : ℕ) (x b : N) → i < length xs → x ≡ get_or xs i x → Contains (take (i + 1) xs) b ↔ (Contains (take i xs) b ⊎ (b ≡ x))
  one_more xs i x b h is = (
    (λ c. ⊎_elim (λ l. inl l) (λ r. inr (contains_one x b r)) (Contains-append_cases (take i xs) (x ∷ []) b (subst (λ ys. Contains ys b) more c))),
    (λ p. subst (λ ys. Contains ys b) (sym more) (⊎_elim (λ l. Contains-append_left (take i xs) (x ∷ []) b l) (λ e. Contains-append_right (take i xs) (x ∷ []) b (subst (λ y. Contains (x ∷ []) y) (sym e) (contains_here x []))) p)),
  )
    where
      more : take (i + 1) xs ≡ take i xs ++ x ∷ []
      more = take_more xs i x h ∙ ap (λ y. take i xs ++ y ∷ []) (sym is)

  module _ (node : N) (xs : List N) (i : ℕ) (x : N) (h : i < length xs) (is : x ≡ get_or xs i x) where
    pub forget_more : (U V W : N → N → Type 0) → ((a b : N) → V a b ↔ (U a b × ((a ≡ node) → Contains (take i xs) b → ⊥))) → ((a b : N) → W a b ↔ (V a b × ((a ≡ node) → (b ≡ x) → ⊥)))
        → (a b : N) → W a b ↔ (U a b × ((a ≡ node) → Contains (take (i + 1) xs) b → ⊥))
    forget_more U V W first then a b = (
      (λ w. let v = (then a b).0 w in let u = (first a b).0 v.0 in (u.0, λ e c. ⊎_elim (λ l. u.1 e l) (λ r. v.1 e r) ((one_more xs i x b h is).0 c))),
      (λ p. (then a b).1 ((first a b).1 (p.0, λ e c. p.1 e ((one_more xs i x b h is).1 (inl c))), λ e f. p.1 e ((one_more xs i x b h is).1 (inr f)))),
    )

    pub note_more : (U V W : N → N → Type 0) → ((a b : N) → V a b ↔ (U a b ⊎ ((a ≡ node) × Contains (take i xs) b))) → ((a b : N) → W a b ↔ (V a b ⊎ ((a ≡ node) × (b ≡ x))))
        → (a b : N) → W a b ↔ (U a b ⊎ ((a ≡ node) × Contains (take (i + 1) xs) b))
    note_more U V W first then a b = (
      (λ w. ⊎_elim (λ v. ⊎_elim (λ u. inl u) (λ c. inr (c.0, (one_more xs i x b h is).1 (inl c.1))) ((first a b).0 v)) (λ n. inr (n.0, (one_more xs i x b h is).1 (inr n.1))) ((then a b).0 w)),
      (λ p. (then a b).1 (⊎_elim (λ u. inl ((first a b).1 (inl u)))
          (λ c. ⊎_elim (λ l. inl ((first a b).1 (inr (c.0, l)))) (λ r. inr (c.0, r)) ((one_more xs i x b h is).0 c.1)) p)),
    )
