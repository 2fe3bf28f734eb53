-- Results of a rule at n places: all of them, or the first error.
use Rattle.std.{proofs.Common.{◌≡◌, ℕ, zero, suc, ◌+◌, ◌<◌, ◌≤◌, List, [], ◌∷◌, length, get_or, map, refl, ap, sym, ◌∙◌, arith, Result, Ok, Err}, specs.List.{range_with_len}, proofs.lemmas.List.FromFn.{length-map-range_with_len, get_or-map-range_with_len}}
use Rattle.arrays_core.specs.Items.{after, all_or_first_error}

module _ {A E : Type 0} where
  pub record Given (r : Result A E) : Type 0 where
    pub item : A
    pub is : r ≡ Ok item

  pub record AllGiven (rs : List (Result A E)) : Type 0 where
    pub items : List A
    pub is : all_or_first_error rs ≡ Ok items

  pub record FirstError (rs : List (Result A E)) (d : Result A E) (e : E) : Type 0 where
    pub place : ℕ
    pub below : place < length rs
    pub is : get_or rs place d ≡ Err e

  record After (x : A) (r : Result (List A) E) (xs : List A) : Type 0 where
    rest : List A
    was : r ≡ Ok rest
    is : xs ≡ x ∷ rest

  after_of : (x : A) (r : Result (List A) E) (xs : List A) → after x r ≡ Ok xs → After x r xs
  after_of x (Ok rest) xs h = let e : xs ≡ x ∷ rest = cc in record { rest = rest; was = refl; is = e }
  after_of x (Err e) xs h = let no : ⊥ = cc in absurd no

  after_error : (x : A) (r : Result (List A) E) (e : E) → after x r ≡ Err e → r ≡ Err e
  after_error x (Ok rest) e h = let no : ⊥ = cc in absurd no
  after_error x (Err k) e h = let same : k ≡ e = cc in ap Err same

  pub entry_of : (rs : List (Result A E)) (xs : List A) (k : ℕ) (d : Result A E) (x : A) → all_or_first_error rs ≡ Ok xs → k < length rs
      → get_or rs k d ≡ Ok (get_or xs k x)
  entry_of [] xs k d x h below = absurd (omega arith)
  entry_of (Err e ∷ rs) xs k d x h below = let no : ⊥ = cc in absurd no
  entry_of (Ok y ∷ rs) xs zero d x h below = let a = after_of y (all_or_first_error rs) xs h in ap (λ zs. Ok (get_or zs 0 x)) (sym a.is)
  entry_of (Ok y ∷ rs) xs (suc k) d x h below =
      let a = after_of y (all_or_first_error rs) xs h in
      entry_of rs a.rest k d x a.was (omega arith) ∙ ap (λ zs. Ok (get_or zs (suc k) x)) (sym a.is)

  pub all_given : (rs : List (Result A E)) (d : Result A E) → ((k : ℕ) → k < length rs → Given (get_or rs k d)) → AllGiven rs
  all_given [] d h = record { items = []; is = refl }
  all_given (Err e ∷ rs) d h = let g = h 0 (omega arith) in let no : ⊥ = (let i = g.is in cc) in absurd no
  all_given (Ok y ∷ rs) d h =
      let rest = all_given rs d (λ k below. h (suc k) (omega arith)) in
      record { items = y ∷ rest.items; is = ap (after y) rest.is }

  pub error_of : (rs : List (Result A E)) (d : Result A E) (e : E) → all_or_first_error rs ≡ Err e → FirstError rs d e
  error_of [] d e h = let no : ⊥ = cc in absurd no
  error_of (Err k ∷ rs) d e h = let same : k ≡ e = cc in record { place = 0; below = omega arith; is = ap Err same }
  error_of (Ok y ∷ rs) d e h =
      let rest = error_of rs d e (after_error y (all_or_first_error rs) e h) in
      record { place = suc rest.place; below = omega (arith, rest.below); is = rest.is }

  -- ---- results of a rule

  module _ (rule : ℕ → Result A E) (n : ℕ) where
    pub rule_entry : (xs : List A) (k : ℕ) (x : A) → all_or_first_error (map rule (range_with_len 0 n)) ≡ Ok xs → k < n → rule k ≡ Ok (get_or xs k x)
    rule_entry xs k x h below =
        let long = length-map-range_with_len rule 0 n in
        sym (get_or-map-range_with_len rule 0 n k k (Ok x) below (omega arith)) ∙ entry_of (map rule (range_with_len 0 n)) xs k (Ok x) x h (omega arith)

    pub rule_given : (x : A) → ((k : ℕ) → k < n → Given (rule k)) → AllGiven (map rule (range_with_len 0 n))
    rule_given x h =
        let long = length-map-range_with_len rule 0 n in
        all_given (map rule (range_with_len 0 n)) (Ok x) (λ k below.
        let inside : k < n = omega arith in
        let g = h k inside in
        record { item = g.item; is = get_or-map-range_with_len rule 0 n k k (Ok x) inside (omega arith) ∙ g.is })

    pub record RuleError (e : E) : Type 0 where
      pub place : ℕ
      pub below : place < n
      pub is : rule place ≡ Err e

    pub rule_error : (x : A) (e : E) → all_or_first_error (map rule (range_with_len 0 n)) ≡ Err e → RuleError e
    rule_error x e h =
        let long = length-map-range_with_len rule 0 n in
        let f = error_of (map rule (range_with_len 0 n)) (Ok x) e h in
        let inside : f.place < n = omega (arith, f.below) in
        record { place = f.place; below = inside; is = sym (get_or-map-range_with_len rule 0 n f.place f.place (Ok x) inside (omega arith)) ∙ f.is }

-- two rules that agree at n places
pub same_rules : {B : Type 0} (rule other : ℕ → B) (n : ℕ) → ((k : ℕ) → k < n → rule k ≡ other k) → map rule (range_with_len 0 n) ≡ map other (range_with_len 0 n)
same_rules {B = B} rule other n h = from 0 n (λ k below. h k (omega (arith, below.1)))
  where
    from : (a m : ℕ) → ((k : ℕ) → (a ≤ k) × (k < a + m) → rule k ≡ other k) → map rule (range_with_len a m) ≡ map other (range_with_len a m)
    from a zero h = refl
    from a (suc m) h = rw (h a (omega arith, omega arith), from (a + 1) m (λ k below. h k (omega (arith, below.0), omega (arith, below.1)))) refl

-- a rule that yields the entries of a list
pub all_places : {A E : Type 0} (rule : ℕ → Result A E) (n : ℕ) (xs : List A) (d : A) → length xs ≡ n → ((k : ℕ) → k < n → rule k ≡ Ok (get_or xs k d))
    → all_or_first_error (map rule (range_with_len 0 n)) ≡ Ok xs
all_places {A = A} {E = E} rule n xs d long h = from 0 n xs long (λ k below. (let z : 0 + k ≡ k = omega arith in ap rule z ∙ h k below))
  where
    from : (a m : ℕ) (ys : List A) → length ys ≡ m → ((k : ℕ) → k < m → rule (a + k) ≡ Ok (get_or ys k d)) → all_or_first_error (map rule (range_with_len a m)) ≡ Ok ys
    from a zero [] e g = refl
    from a zero (y ∷ ys) e g = absurd (omega arith)
    from a (suc m) [] e g = absurd (omega arith)
    from a (suc m) (y ∷ ys) e g =
        let first : rule a ≡ Ok y = (let z : a ≡ a + 0 = omega arith in ap rule z ∙ g 0 (omega arith)) in
        rw (first, from (a + 1) m ys (omega arith) (λ k below. (let z : a + 1 + k ≡ a + suc k = omega arith in ap rule z ∙ g (suc k) (omega arith)))) refl
