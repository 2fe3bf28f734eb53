-- The lists that the table lacks are moved into it one by one.
use Rattle.std.{proofs.Common.{◌≡◌, ◌≢◌, ◌<◌, ◌⊎◌, inl, inr, ⊎_elim, Bool, true, false, cond, List, [], ◌∷◌, ◌++◌, Option, Some, None, IsSome, is_some, refl, sym, ap, ◌∙◌, subst, length, arith}, specs.Cmp.{IsEquivalence}, specs.Map.{lookup}, specs.List.{Contains}, specs.Option.{unwrap_or, option_map}}
use Rattle.std.{proofs.lemmas.Bool.{false≢true, false_from_ne_true, cond-false}, proofs.lemmas.List.Elements.{Contains-append_left, Contains-append_right, Contains-append_cases}, specs.Prelude.{Vec}}
use Rattle.dep_order.{specs.Users.{users_of, IsExact, HasRoomFor}, specs.Room.{HasRoomAt, IsLarger, AreListsFor}, proofs.Noting.{cases_node, same_eq}, proofs.Following.{contains_here, contains_one}}

-- the last entry is found by its key if no other entry has that key
pub found_last : {N V : Type 0} (eq : N → N → Bool) → IsEquivalence eq → (es : List (N × V)) (k : N) (v : V) → lookup (eq k) es ≡ None → lookup (eq k) (es ++ (k, v) ∷ []) ≡ Some v
found_last eq laws [] k v none = rw (laws.refl k) refl
found_last {N} {V} eq laws (e ∷ es) k v none = by (eq k e.0) refl (found_last eq laws es k v)
  where
    by : (t : Bool) → eq k e.0 ≡ t → (lookup (eq k) es ≡ None → lookup (eq k) (es ++ (k, v) ∷ []) ≡ Some v) → lookup (eq k) (e ∷ (es ++ (k, v) ∷ [])) ≡ Some v
    by true is more = let never : Some e.1 ≡ None = rw is at none in absurd cc
    by false is more = let rest : lookup (eq k) es ≡ None = rw is at none in rw is (more rest)

-- a list without an entry is empty
pub nothing_in : {A : Type 0} (xs : List A) → (0 < length xs → ⊥) → xs ≡ []
nothing_in [] none = refl
nothing_in (x ∷ xs) none = absurd (none (omega arith))

module _ {N S : Type 0} (eq : N → N → Bool) (laws : IsEquivalence eq) (exact : IsExact eq) where
  pub listed : (table : List (N × Vec N S)) (b : N) (s : Vec N S) → lookup (eq b) table ≡ Some s → users_of eq table b ≡ s.items
  listed table b s is = ap (λ (o : Option (Vec N S)). unwrap_or (option_map (λ (t : Vec N S). t.items) o) []) is

  pub unlisted : (table : List (N × Vec N S)) (b : N) → lookup (eq b) table ≡ None → users_of eq table b ≡ []
  unlisted table b is = ap (λ (o : Option (Vec N S)). unwrap_or (option_map (λ (t : Vec N S). t.items) o) []) is

  module _ (lists left : List (N × Vec N S)) (node : N) (s : Vec N S) (popped : lists ≡ left ++ (node, s) ∷ [])
      (change : (q : N) → lookup (eq q) left ≡ cond (eq node q) None (lookup (eq q) lists)) where
    gone : lookup (eq node) left ≡ None
    gone = change node ∙ rw (laws.refl node) refl

    stays : (b : N) → b ≢ node → lookup (eq b) left ≡ lookup (eq b) lists
    stays b apart = change b ∙ cond-false _ _ _ (false_from_ne_true _ (λ e. apart (sym (exact node b e))))

    pub was_last : lookup (eq node) lists ≡ Some s
    was_last = subst (λ (es : List (N × Vec N S)). lookup (eq node) es ≡ Some s) (sym popped) (found_last eq laws left node s gone)

    module _ (before after : List (N × Vec N S)) (own : HasRoomFor eq after (node ∷ [])) (kept : (references : List N) → HasRoomFor eq before references → HasRoomFor eq after references)
        (stay : (b : N) → users_of eq after b ≡ users_of eq before b) (references : List N) (are : AreListsFor eq before references lists) where
      pub lists_left : AreListsFor eq after references left
      lists_left = record {
        enough = λ b c. cases_node eq laws exact (HasRoomAt eq after b ⊎ IsSome (lookup (eq b) left)) node b
            (λ e. inl (own b (subst (λ y. Contains (node ∷ []) y) (sym e) (contains_here node []))))
            (λ apart. ⊎_elim
            (λ r. inl (kept (b ∷ []) (λ x d. subst (λ y. HasRoomAt eq before y) (sym (contains_one b x d)) r) b (contains_here b [])))
            (λ some. inr (subst (λ o. IsSome o) (sym (stays b apart)) some)) (are.enough b c));
        larger = λ b t is. subst (λ those. IsLarger t those) (sym (stay b)) (are.larger b t (was b t is));
        asked = λ b some. cases_node eq laws exact (Contains references b) node b
            (λ e. are.asked b (subst (λ y. IsSome (lookup (eq y) lists)) (sym e) (subst (λ o. IsSome o) (sym was_last) refl)))
            (λ apart. are.asked b (subst (λ o. IsSome o) (stays b apart) some));
      }
        where
          was : (b : N) (t : Vec N S) → lookup (eq b) left ≡ Some t → lookup (eq b) lists ≡ Some t
          was b t is = cases_node eq laws exact (lookup (eq b) lists ≡ Some t) node b
              (λ e. let never : None ≡ Some t = sym gone ∙ (ap (λ y. lookup (eq y) left) (sym e) ∙ is) in absurd cc)
              (λ apart. sym (stays b apart) ∙ is)

      pub asked_last : Contains references node
      asked_last = are.asked node (subst (λ o. IsSome o) (sym was_last) refl)

  -- no list is left
  pub none_left : (table : List (N × Vec N S)) (references : List N) (lists : List (N × Vec N S)) → lists ≡ [] → AreListsFor eq table references lists → HasRoomFor eq table references
  none_left table references lists none are b c = ⊎_elim (λ r. r) (λ some. absurd (false≢true (subst (λ (es : List (N × Vec N S)). is_some (lookup (eq b) es) ≡ true) none some))) (are.enough b c)

  module _ (table lists now : List (N × Vec N S)) (references : List N) (node : N) (are : AreListsFor eq table references lists) where
    split : (P : N → Type 0) (b : N) → Contains (references ++ node ∷ []) b → (Contains references b → P b) → P node → P b
    split P b c before here = ⊎_elim before (λ r. subst P (sym (contains_one node b r)) here) (Contains-append_cases references (node ∷ []) b c)

    -- the table has room for the node, or its list is there
    pub asked_more : HasRoomAt eq table node ⊎ IsSome (lookup (eq node) lists) → AreListsFor eq table (references ++ node ∷ []) lists
    asked_more there = record {
      enough = λ b c. split (λ y. HasRoomAt eq table y ⊎ IsSome (lookup (eq y) lists)) b c (are.enough b) there;
      larger = are.larger;
      asked = λ b some. Contains-append_left references (node ∷ []) b (are.asked b some);
    }

    -- a list is made for the node
    pub list_more : (s : Vec N S) → IsLarger s (users_of eq table node) → ((q : N) → lookup (eq q) now ≡ cond (eq node q) (Some s) (lookup (eq q) lists)) → AreListsFor eq table (references ++ node ∷ []) now
    list_more s larger change = record {
      enough = λ b c. split (λ y. HasRoomAt eq table y ⊎ IsSome (lookup (eq y) now)) b c
          (λ d. cases_node eq laws exact (HasRoomAt eq table b ⊎ IsSome (lookup (eq b) now)) node b
          (λ e. inr (subst (λ o. IsSome o) (sym (here b e)) refl))
          (λ apart. ⊎_elim (λ r. inl r) (λ some. inr (subst (λ o. IsSome o) (sym (there b apart)) some)) (are.enough b d)))
          (inr (subst (λ o. IsSome o) (sym (here node refl)) refl));
      larger = λ b t is. cases_node eq laws exact (IsLarger t (users_of eq table b)) node b
          (λ e. let same : Some s ≡ Some t = sym (here b e) ∙ is in let this : s ≡ t = cc in subst (λ y. IsLarger t (users_of eq table y)) (sym e) (subst (λ (u : Vec N S). IsLarger u (users_of eq table node)) this larger))
          (λ apart. are.larger b t (sym (there b apart) ∙ is));
      asked = λ b some. cases_node eq laws exact (Contains (references ++ node ∷ []) b) node b
          (λ e. Contains-append_right references (node ∷ []) b (subst (λ y. Contains (node ∷ []) y) (sym e) (contains_here node [])))
          (λ apart. Contains-append_left references (node ∷ []) b (are.asked b (subst (λ o. IsSome o) (there b apart) some)));
    }
      where
        here : (b : N) → b ≡ node → lookup (eq b) now ≡ Some s
        here b e = change b ∙ rw (same_eq eq laws exact node b (sym e)) refl

        there : (b : N) → b ≢ node → lookup (eq b) now ≡ lookup (eq b) lists
        there b apart = change b ∙ cond-false _ _ _ (false_from_ne_true _ (λ e. apart (sym (exact node b e))))

-- one more of these nodes has its list
pub room_more : {N S : Type 0} (eq : N → N → Bool) (table : List (N × Vec N S)) (node : N) (references : List N) → HasRoomFor eq table references → HasRoomAt eq table node → HasRoomFor eq table (references ++ node ∷ [])
room_more eq table node references room here b c =
    ⊎_elim (λ l. room b l) (λ r. subst (λ y. HasRoomAt eq table y) (sym (contains_one node b r)) here) (Contains-append_cases references (node ∷ []) b c)
