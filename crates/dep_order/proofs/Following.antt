-- Lists in which each entry comes after all that it needs.
use Rattle.std.{proofs.Common.{◌≡◌, ℕ, zero, suc, ◌<◌, ◌⊎◌, inl, inr, Bool, true, false, List, [], ◌∷◌, ◌++◌, take, length, slice_index_or, filter, refl, sym, ap, ◌∙◌, subst, arith, ⊎_elim}, specs.List.{Contains}, proofs.lemmas.Bool.{false≢true}}
use Rattle.{std.proofs.lemmas.List.Elements.{Contains-append_left, Contains-append_right, Contains-append_cases}, dep_order.specs.Follows.{Follows, IsOnce}}

pub contains_here : {A : Type 0} (x : A) (xs : List A) → Contains (x ∷ xs) x
contains_here x xs = (0, omega arith, refl)

pub contains_there : {A : Type 0} (x : A) (xs : List A) (y : A) → Contains xs y → Contains (x ∷ xs) y
contains_there x xs y c = Contains-append_right (x ∷ []) xs y c

pub contains_one : {A : Type 0} (x y : A) → Contains (x ∷ []) y → y ≡ x
contains_one x y (zero, h, e) = sym e
contains_one x y (suc k, h, e) = absurd (omega (arith, h))

pub contains_cases : {A : Type 0} (x : A) (xs : List A) (y : A) → Contains (x ∷ xs) y → (y ≡ x) ⊎ Contains xs y
contains_cases x xs y c = ⊎_elim (λ l. inl (contains_one x y l)) (λ r. inr r) (Contains-append_cases (x ∷ []) xs y c)

pub contains_none : {A : Type 0} (y : A) → Contains [] y → ⊥
contains_none y c = absurd (omega (arith, c.1))

module _ {A : Type 0} where
  pub follows_weaker : (R S : A → A → Type 0) (D E : A → Type 0) (xs : List A) → ((a b : A) → Contains xs a → S a b → R a b) → ((a : A) → D a → E a) → Follows R D xs → Follows S E xs
  follows_weaker R S D E [] needs done f = tt
  follows_weaker R S D E (x ∷ xs) needs done f = (
    (λ b s. done b (f.0 b (needs x b (contains_here x xs) s))),
    follows_weaker R S (λ y. D y ⊎ (y ≡ x)) (λ y. E y ⊎ (y ≡ x)) xs (λ a b c s. needs a b (contains_there x xs a c) s) (λ a d. ⊎_elim (λ l. inl (done a l)) (λ r. inr r) d) f.1,
  )

  pub follows_append : (R : A → A → Type 0) (D : A → Type 0) (xs ys : List A) → Follows R D xs → Follows R (λ y. D y ⊎ Contains xs y) ys → Follows R D (xs ++ ys)
  follows_append R D [] ys f g = follows_weaker R R (λ y. D y ⊎ Contains [] y) D ys (λ a b c r. r) (λ a d. ⊎_elim (λ l. l) (λ r. absurd (contains_none a r)) d) g
  follows_append R D (x ∷ xs) ys f g = (
    f.0,
    follows_append R (λ y. D y ⊎ (y ≡ x)) xs ys f.1
        (follows_weaker R R (λ y. D y ⊎ Contains (x ∷ xs) y) (λ y. (D y ⊎ (y ≡ x)) ⊎ Contains xs y) ys (λ a b c r. r)
        (λ a d. ⊎_elim (λ l. inl (inl l)) (λ r. ⊎_elim (λ e. inl (inr e)) (λ c. inr c) (contains_cases x xs a r)) d) g),
  )

  pub follows_last : (R : A → A → Type 0) (D : A → Type 0) (xs : List A) (x : A) → Follows R D xs → ((b : A) → R x b → D b ⊎ Contains xs b) → Follows R D (xs ++ x ∷ [])
  follows_last R D xs x f needs = follows_append R D xs (x ∷ []) f (needs, tt)

  -- a front part of such a list is such a list
  pub follows_front : (R : A → A → Type 0) (D : A → Type 0) (xs ys : List A) → Follows R D (xs ++ ys) → Follows R D xs
  follows_front R D [] ys f = tt
  follows_front R D (x ∷ xs) ys f = (f.0, follows_front R (λ y. D y ⊎ (y ≡ x)) xs ys f.1)

  -- the needs of the entry after xs are done or in xs
  pub follows_behind : (R : A → A → Type 0) (D : A → Type 0) (xs : List A) (x : A) (ys : List A) → Follows R D (xs ++ x ∷ ys) → (b : A) → R x b → D b ⊎ Contains xs b
  follows_behind R D [] x ys f b r = inl (f.0 b r)
  follows_behind R D (y ∷ xs) x ys f b r = ⊎_elim (λ l. ⊎_elim (λ d. inl d) (λ e. inr (subst (λ z. Contains (y ∷ xs) z) (sym e) (contains_here y xs))) l) (λ c. inr (contains_there y xs b c))
      (follows_behind R (λ z. D z ⊎ (z ≡ y)) xs x ys f.1 b r)

  -- the needs of an entry of the list are done or in the list
  pub follows_has : (R : A → A → Type 0) (D : A → Type 0) (xs : List A) (x b : A) → Follows R D xs → Contains xs x → R x b → D b ⊎ Contains xs b
  follows_has R D [] x b f c r = absurd (contains_none x c)
  follows_has R D (y ∷ ys) x b f c r = ⊎_elim (λ e. inl (f.0 b (subst (λ z. R z b) e r)))
      (λ d. ⊎_elim (λ l. ⊎_elim (λ d. inl d) (λ e. inr (subst (λ z. Contains (y ∷ ys) z) (sym e) (contains_here y ys))) l) (λ d. inr (contains_there y ys b d))
      (follows_has R (λ z. D z ⊎ (z ≡ y)) ys x b f.1 d r)) (contains_cases y ys x c)

  -- the needs of the entry at a place are done or in front of it
  pub follows_at : (R : A → A → Type 0) (D : A → Type 0) (d : A) (xs : List A) (i : ℕ) (b : A) → Follows R D xs → i < length xs → R (slice_index_or xs i d) b → D b ⊎ Contains (take i xs) b
  follows_at R D d [] i b f h r = absurd (omega (arith, h))
  follows_at R D d (x ∷ xs) zero b f h r = inl (f.0 b r)
  follows_at R D d (x ∷ xs) (suc i) b f h r = ⊎_elim (λ l. ⊎_elim (λ d. inl d) (λ e. inr (subst (λ z. Contains (x ∷ take i xs) z) (sym e) (contains_here x (take i xs)))) l) (λ c. inr (contains_there x (take i xs) b c))
      (follows_at R (λ z. D z ⊎ (z ≡ x)) d xs i b f.1 (omega (arith, h)) r)

  -- a filter that keeps the needs of each kept entry keeps the order
  pub follows_kept : (R S : A → A → Type 0) (D E : A → Type 0) (keep : A → Bool) (xs : List A) → ((a b : A) → keep a ≡ true → S a b → R a b × (keep b ≡ true)) → ((a : A) → keep a ≡ true → D a → E a) → Follows R D xs → Follows S E (filter keep xs)
  follows_kept R S D E keep [] needs done f = tt
  follows_kept R S D E keep (x ∷ xs) needs done f = by (keep x) refl
      (λ F step. follows_kept R S (λ y. D y ⊎ (y ≡ x)) F keep xs needs step f.1)
    where
      by : (t : Bool) → keep x ≡ t → ((F : A → Type 0) → ((a : A) → keep a ≡ true → D a ⊎ (a ≡ x) → F a) → Follows S F (filter keep xs)) → Follows S E (filter keep (x ∷ xs))
      by true is rest = rw is (
        (λ b s. let n = needs x b is s in done b n.1 (f.0 b n.0)),
        rest (λ y. E y ⊎ (y ≡ x)) (λ a k d. ⊎_elim (λ l. inl (done a k l)) (λ r. inr r) d),
      )
      by false is rest = rw is (rest E (λ a k d. ⊎_elim (λ l. done a k l) (λ e. absurd (false≢true (sym is ∙ (ap keep (sym e) ∙ k)))) d))

  abbrev pub backward : List A → List A
  backward [] = []
  backward (x ∷ xs) = backward xs ++ x ∷ []

  pub backward_has : (xs : List A) (y : A) → Contains xs y → Contains (backward xs) y
  backward_has [] y c = absurd (contains_none y c)
  backward_has (x ∷ xs) y c = ⊎_elim
      (λ e. Contains-append_right (backward xs) (x ∷ []) y (subst (λ z. Contains (x ∷ []) z) (sym e) (contains_here x [])))
      (λ r. Contains-append_left (backward xs) (x ∷ []) y (backward_has xs y r)) (contains_cases x xs y c)

  pub backward_only : (xs : List A) (y : A) → Contains (backward xs) y → Contains xs y
  backward_only [] y c = absurd (contains_none y c)
  backward_only (x ∷ xs) y c = ⊎_elim (λ l. contains_there x xs y (backward_only xs y l))
      (λ r. subst (λ z. Contains (x ∷ xs) z) (sym (contains_one x y r)) (contains_here x xs)) (Contains-append_cases (backward xs) (x ∷ []) y c)

  -- a list in which each entry follows its users, reversed, has each entry after its needs
  pub follows_backward : (Uses Needs : A → A → Type 0) (B D : A → Type 0) (xs : List A) → Follows Uses B xs
      → ((a : A) → Contains xs a → B a → ⊥) → IsOnce xs
      → ((a b : A) → Contains xs a → Needs a b → (D b ⊎ Contains xs b) × (Contains xs b → Uses b a))
      → Follows Needs D (backward xs)
  follows_backward Uses Needs B D [] f apart once needs = tt
  follows_backward Uses Needs B D (x ∷ xs) f apart once needs =
      follows_last Needs D (backward xs) x
      (follows_backward Uses Needs (λ y. B y ⊎ (y ≡ x)) D xs f.1
      (λ a c d. ⊎_elim (λ l. apart a (contains_there x xs a c) l) (λ e. once.0 (subst (λ z. Contains xs z) e c)) d)
      once.1
      (λ a b c n.
      let m = needs a b (contains_there x xs a c) n in (
        ⊎_elim (λ l. inl l) (λ r. ⊎_elim
            (λ e. absurd (apart a (contains_there x xs a c) (f.0 a (subst (λ z. Uses z a) e (m.1 r)))))
            (λ c. inr c) (contains_cases x xs b r)) m.0,
        λ r. m.1 (contains_there x xs b r),
      )))
      (λ b n.
      let m = needs x b (contains_here x xs) n in
      ⊎_elim (λ l. inl l) (λ r. ⊎_elim
      (λ e. absurd (apart x (contains_here x xs) (f.0 x (subst (λ z. Uses z x) e (m.1 r)))))
      (λ c. inr (backward_has xs b c)) (contains_cases x xs b r)) m.0)
