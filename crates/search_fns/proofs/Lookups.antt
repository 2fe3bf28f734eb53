-- Items looked up in a list by their first places.
use Rattle.std.proofs.Common.{◌≡◌, ◌≢◌, ℕ, ◌+◌, ◌<◌, ◌≤◌, Bool, true, false, ◌||◌, cond, List, [], ◌∷◌, ◌++◌, length, get_or, set, take, drop, map, Option, Some, None, ℤ, ◌+ℤ◌, ◌-ℤ◌, ◌≤ℤ◌, ◌<ℤ◌, negsuc, unsigned_abs, SFits, w64, to_z, of_z, pos, inl, inr, refl, ap, sym, ◌∙◌, arith, below_more, get_or-set_other, get_or-set_same, length-take, length-drop}
use Rattle.std.{specs.Int.Signed.{lt_z}, specs.Ordering.{int_eq}, specs.Cmp.{IsEquivalence}, specs.List.{list_any, position_from, position_or_len}, proofs.lemmas.List.{drop_more, drop-drop, take-append-drop, take_more, map-append, length-map, get_or-map, get_or_default}, proofs.lemmas.List.Folds.{list_any_more}}
use Rattle.std.{proofs.lemmas.List.Sums.{position_or_len_is}, proofs.lemmas.Bool.Decides.{Decides-int_eq}, proofs.lemmas.Bool.{cases_eq}, proofs.lemmas.Int.{to_z-of_z, by_lt_z, ints}}
use Rattle.search_fns.specs.Lookup.{IsWithinSpan, HasFirsts}

-- the key of an item of a list
pub key_at : {K : Type 0} (code : K → ℤ) (xs : List K) (k : ℕ) (x : K) (d : ℤ) → k < length xs → x ≡ get_or xs k x → get_or (map code xs) k d ≡ code x
key_at code xs k x d below here = get_or-map code xs k x d below ∙ ap code (sym here)

keys_below : {K : Type 0} (code : K → ℤ) (xs : List K) (k : ℕ) → k < length xs → k < length (map code xs)
keys_below code xs k below = rw (length-map xs code) below

-- ---- a list that is read at each lookup

module _ {K : Type 0} (code : K → ℤ) (p : ℤ → Bool) (xs : List K) where
  pub one_more_read : (k : ℕ) (x : K) (found passes : Bool) → k < length xs → x ≡ get_or xs k x
      → found ≡ list_any p (take k (map code xs)) → passes ≡ p (code x) → (found || passes) ≡ list_any p (take (k + 1) (map code xs))
  one_more_read k x found passes below here so_far gives =
      ap (λ b. b || passes) so_far
      ∙ ap (λ b. list_any p (take k (map code xs)) || b) (gives ∙ ap p (sym (key_at code xs k x (pos 0) below here)))
      ∙ sym (list_any_more p (map code xs) k (pos 0) (keys_below code xs k below))

  pub one_more_fails : (k : ℕ) (x : K) → k < length xs → x ≡ get_or xs k x → p (code x) ≡ false
      → ((j : ℕ) → j < k → p (get_or (map code xs) j (pos 0)) ≡ false) → (j : ℕ) → j < k + 1 → p (get_or (map code xs) j (pos 0)) ≡ false
  one_more_fails k x below here fails before = below_more _ _ before (ap p (key_at code xs k x (pos 0) below here) ∙ fails)

  pub first_here : (k : ℕ) (x : K) → k < length xs → x ≡ get_or xs k x → p (code x) ≡ true
      → ((j : ℕ) → j < k → p (get_or (map code xs) j (pos 0)) ≡ false) → k ≡ position_or_len p (map code xs)
  first_here k x below here passes before =
      let within : k ≤ length (map code xs) = omega (arith, keys_below code xs k below) in
      sym (position_or_len_is p (map code xs) k (pos 0) within before (λ _. ap p (key_at code xs k x (pos 0) below here) ∙ passes))

  pub first_nowhere : ((j : ℕ) → j < length xs → p (get_or (map code xs) j (pos 0)) ≡ false) → length xs ≡ position_or_len p (map code xs)
  first_nowhere fails =
      let long : length (map code xs) ≡ length xs = length-map xs code in
      sym (position_or_len_is p (map code xs) (length xs) (pos 0) (omega arith) fails (λ h. absurd (omega arith)))

skipped : (p : ℤ → Bool) (ys zs : List ℤ) → false ≡ list_any p ys → position_or_len p (ys ++ zs) ≡ length ys + position_or_len p zs
skipped p [] zs h = omega arith
skipped p (y ∷ ys) zs h = decide (p y) refl (skipped p ys zs) h
  where
    decide : (w : Bool) → p y ≡ w → (false ≡ list_any p ys → position_or_len p (ys ++ zs) ≡ length ys + position_or_len p zs)
        → false ≡ (w || list_any p ys) → position_or_len p ((y ∷ ys) ++ zs) ≡ length (y ∷ ys) + position_or_len p zs
    decide true e more h = cc
    decide false e more h = let rest = more h in rw e (omega arith)

-- a block that does not hold the item is passed
pub block_passed : {K : Type 0} (code : K → ℤ) (p : ℤ → Bool) (xs : List K) (i n m : ℕ) → i + n ≤ length xs → m ≡ n → false ≡ list_any p (map code (take m (drop i xs)))
    → position_or_len p (map code xs) ≡ i + position_or_len p (map code (drop i xs))
    → position_or_len p (map code xs) ≡ i + n + position_or_len p (map code (drop (i + n) xs))
block_passed code p xs i n m within same none so_far =
    let ys = drop i xs in
    let split : map code ys ≡ map code (take m ys) ++ map code (drop m ys) = ap (map code) (sym (take-append-drop m ys)) ∙ map-append code (take m ys) (drop m ys) in
    let long : length (map code (take m ys)) ≡ n = length-map (take m ys) code ∙ omega (arith, length-take m ys, length-drop i xs) in
    let step : position_or_len p (map code ys) ≡ length (map code (take m ys)) + position_or_len p (map code (drop m ys)) = ap (position_or_len p) split ∙ skipped p _ _ none in
    let rest : position_or_len p (map code (drop m ys)) ≡ position_or_len p (map code (drop (i + n) xs)) = ap (λ zs. position_or_len p (map code zs)) (drop-drop m i xs ∙ ap (λ j. drop (i + j) xs) same) in
    omega arith

-- ---- a table of a span

-- the offset of a key from the least key
pub offset_is : (least z : ℤ) → least ≤ℤ z → least +ℤ pos (unsigned_abs (z -ℤ least)) ≡ z
offset_is least z low = let e = of_abs (z -ℤ least) (omega (arith, ints)) in omega (arith, ints)
  where
    of_abs : (y : ℤ) → pos 0 ≤ℤ y → pos (unsigned_abs y) ≡ y
    of_abs (pos n) h = refl
    of_abs (negsuc n) h = absurd (omega (arith, ints))

pub offset_below : (least z : ℤ) (span : ℕ) → least ≤ℤ z → z <ℤ (least +ℤ pos span) → unsigned_abs (z -ℤ least) < span
offset_below least z span low high = let e = offset_is least z low in omega (arith, ints)

same_key : (x y : ℤ) → x ≡ y → int_eq x y ≡ true
same_key x y e = (Decides-int_eq x y).1 e

other_key : (x y : ℤ) → x ≢ y → int_eq x y ≡ false
other_key x y apart = decide (int_eq x y) refl
  where
    decide : (w : Bool) → int_eq x y ≡ w → w ≡ false
    decide true e = absurd (apart ((Decides-int_eq x y).0 e))
    decide false e = refl

position_cons : (p : ℤ → Bool) (x : ℤ) (xs : List ℤ) → position_or_len p (x ∷ xs) ≡ cond (p x) 0 (1 + position_or_len p xs)
position_cons p x xs = decide (p x) refl
  where
    decide : (w : Bool) → p x ≡ w → position_or_len p (x ∷ xs) ≡ cond w 0 (1 + position_or_len p xs)
    decide true e = rw e refl
    decide false e = rw e refl

one_offset : (least z : ℤ) (i j : ℕ) → least +ℤ pos i ≡ z → least +ℤ pos j ≡ z → i ≡ j
one_offset least z i j here there = omega (arith, ints)

-- an offset as it is computed, of numbers of 64 bits
offset_as : (least y z : ℤ) (offset : ℕ) → SFits w64 y → SFits w64 least → y ≡ z → offset ≡ unsigned_abs (to_z w64 (of_z w64 y) -ℤ to_z w64 (of_z w64 least)) → offset ≡ unsigned_abs (z -ℤ least)
offset_as least y z offset y_fits fits is gives =
    gives ∙ ap (λ u. unsigned_abs (u -ℤ to_z w64 (of_z w64 least))) (to_z-of_z w64 y y_fits ∙ is) ∙ ap (λ u. unsigned_abs (z -ℤ u)) (to_z-of_z w64 least fits)

-- the offset of an item of the list lies in the span
pub offset_of : {K : Type 0} (code : K → ℤ) (xs : List K) (k : ℕ) (x : K) (least y : ℤ) (span offset : ℕ) → SFits w64 y → SFits w64 least → IsWithinSpan least span (map code xs)
    → k < length xs → x ≡ get_or xs k x → y ≡ code x → offset ≡ unsigned_abs (to_z w64 (of_z w64 y) -ℤ to_z w64 (of_z w64 least)) → (offset < span) × (least +ℤ pos offset ≡ code x)
offset_of code xs k x least y span offset y_fits fits all below here is gives =
    let same = offset_as least y (code x) offset y_fits fits is gives in
    let at = key_at code xs k x (pos 0) below here in
    let within = all k (pos 0) (keys_below code xs k below) in
    let low : least ≤ℤ code x = omega (arith, ints, within.0, at) in
    let high : code x <ℤ (least +ℤ pos span) = omega (arith, ints, within.1, at) in
    let inside = offset_below least (code x) span low high in
    (omega arith, ap (λ n. least +ℤ pos n) same ∙ offset_is least (code x) low)

-- the span of the keys so far, and of one more
pub one_more_spanned : (keys : List ℤ) (k : ℕ) (z least greatest lower higher : ℤ) → get_or keys k (pos 0) ≡ z → lower ≤ℤ least → lower ≤ℤ z → greatest ≤ℤ higher → z ≤ℤ higher
    → ((j : ℕ) → j < k → (least ≤ℤ get_or keys j (pos 0)) × (get_or keys j (pos 0) ≤ℤ greatest))
    → (j : ℕ) → j < k + 1 → (lower ≤ℤ get_or keys j (pos 0)) × (get_or keys j (pos 0) ≤ℤ higher)
one_more_spanned keys k z least greatest lower higher here a b c d so_far =
    below_more _ _ (λ j h. let o = so_far j h in (omega (arith, ints, o.0), omega (arith, ints, o.1))) (omega (arith, ints), omega (arith, ints))

pub spanned : (keys : List ℤ) (least greatest : ℤ) (span : ℕ) → span ≡ unsigned_abs (greatest -ℤ least)
    → ((j : ℕ) → j < length keys → (least ≤ℤ get_or keys j (pos 0)) × (get_or keys j (pos 0) ≤ℤ greatest)) → IsWithinSpan least (span + 1) keys
spanned keys least greatest span is all k d below =
    let o = all k below in
    let here : get_or keys k d ≡ get_or keys k (pos 0) = get_or_default keys k d (pos 0) below in
    let e = offset_is least greatest (omega (arith, ints, o.0, o.1)) in
    (omega (arith, ints, o.0), omega (arith, ints, o.1))

-- one more item in front of those whose first places the table holds
pub one_more_placed : (keys : List ℤ) (least z : ℤ) (firsts : List ℕ) (place k at : ℕ) → k + 1 ≡ place → k < length keys → z ≡ get_or keys k z → at < length firsts → least +ℤ pos at ≡ z
    → ((j : ℕ) → j < length firsts → get_or firsts j 0 ≡ place + position_or_len (int_eq (least +ℤ pos j)) (drop place keys))
    → (j : ℕ) → j < length firsts → get_or (set firsts at k) j 0 ≡ k + position_or_len (int_eq (least +ℤ pos j)) (drop k keys)
one_more_placed keys least z firsts place k at next below here inside is so_far j within =
    elim (cases_eq j at) [
      | inl same ↦
          let hit : int_eq (least +ℤ pos j) z ≡ true = same_key _ _ (ap (λ i. least +ℤ pos i) same ∙ is) in
          let first : position_or_len (int_eq (least +ℤ pos j)) (drop k keys) ≡ 0 = front ∙ ap (λ w. cond w 0 (1 + position_or_len (int_eq (least +ℤ pos j)) (drop place keys))) hit in
          let put : get_or (set firsts at k) j 0 ≡ k = ap (λ i. get_or (set firsts at k) i 0) same ∙ get_or-set_same firsts at k 0 inside in
          omega arith
      | inr apart ↦
          let miss : int_eq (least +ℤ pos j) z ≡ false = other_key _ _ (λ e. apart (one_offset least z j at e is)) in
          let first : position_or_len (int_eq (least +ℤ pos j)) (drop k keys) ≡ 1 + position_or_len (int_eq (least +ℤ pos j)) (drop place keys) = front ∙ ap (λ w. cond w 0 (1 + position_or_len (int_eq (least +ℤ pos j)) (drop place keys))) miss in
          let kept : get_or (set firsts at k) j 0 ≡ get_or firsts j 0 = get_or-set_other firsts at j k 0 apart in
          let before = so_far j within in
          omega arith
    ]
  where
    front : position_or_len (int_eq (least +ℤ pos j)) (drop k keys) ≡ cond (int_eq (least +ℤ pos j) z) 0 (1 + position_or_len (int_eq (least +ℤ pos j)) (drop place keys))
    front =
        ap (position_or_len (int_eq (least +ℤ pos j))) (drop_more keys k z below ∙ ap (λ y. y ∷ drop (k + 1) keys) (sym here) ∙ ap (λ i. z ∷ drop i keys) next)
        ∙ position_cons (int_eq (least +ℤ pos j)) z (drop place keys)

-- a key is looked up by its offset
module _ (keys : List ℤ) (least y z : ℤ) (firsts : List ℕ) (offset : ℕ) (y_fits : SFits w64 y) (fits : SFits w64 least) (is : y ≡ z)
    (gives : offset ≡ unsigned_abs (to_z w64 (of_z w64 y) -ℤ to_z w64 (of_z w64 least))) where
  pub first_in_table : HasFirsts least firsts keys → lt_z (to_z w64 (of_z w64 y)) (to_z w64 (of_z w64 least)) ≡ false → offset < length firsts → get_or firsts offset 0 ≡ position_or_len (int_eq z) keys
  first_in_table placed above below =
      let low : least ≤ℤ z = by_lt_z y least (λ h. absurd (clash h)) (λ h. omega (arith, ints)) in
      placed offset below ∙ ap (λ u. position_or_len (int_eq u) keys) (ap (λ n. least +ℤ pos n) (offset_as least y z offset y_fits fits is gives) ∙ offset_is least z low)
    where
      clash : y <ℤ least → ⊥
      clash h = grind (arith, ints)

  nowhere : IsWithinSpan least (length firsts) keys → (least ≤ℤ z → (z <ℤ (least +ℤ pos (length firsts))) → ⊥) → length keys ≡ position_or_len (int_eq z) keys
  nowhere all outside =
      sym (position_or_len_is (int_eq z) keys (length keys) (pos 0) (omega arith)
      (λ k below. other_key z (get_or keys k (pos 0)) (λ e. let h = all k (pos 0) below in outside (omega (arith, ints, h.0, e)) (omega (arith, ints, h.1, e))))
      (λ h. absurd (omega arith)))

  pub below_table : IsWithinSpan least (length firsts) keys → lt_z (to_z w64 (of_z w64 y)) (to_z w64 (of_z w64 least)) ≡ true → length keys ≡ position_or_len (int_eq z) keys
  below_table all below = nowhere all (λ low high. clash low)
    where
      clash : least ≤ℤ z → ⊥
      clash low = let low' : least ≤ℤ y = omega (arith, ints) in grind (arith, ints)

  pub above_table : IsWithinSpan least (length firsts) keys → length firsts ≤ offset → length keys ≡ position_or_len (int_eq z) keys
  above_table all above = nowhere all (λ low high. let same = offset_as least y z offset y_fits fits is gives in let inside = offset_below least z (length firsts) low high in omega arith)

-- ---- a map

-- one more item in front of those whose first places are known
pub one_more_first : {K : Type 0} {eq : K → K → Bool} (laws : IsEquivalence eq) (xs : List K) (x : K) (k place : ℕ) (m n : K → Option ℕ)
    → k < length xs → k + 1 ≡ place → x ≡ get_or xs k x
    → ((q : K) → m q ≡ position_from (eq q) place (drop place xs))
    → ((q : K) → n q ≡ cond (eq x q) (Some k) (m q))
    → (q : K) → n q ≡ position_from (eq q) k (drop k xs)
one_more_first {eq = eq} laws xs x k place m n below next here known put q =
    put q
    ∙ ap (λ w. cond w (Some k) (m q)) (laws.symm x q)
    ∙ ap (λ r. cond (eq q x) (Some k) r) (known q)
    ∙ ap (λ p. cond (eq q x) (Some k) (position_from (eq q) p (drop p xs))) (sym next)
    ∙ ap (λ y. position_from (eq q) k (y ∷ drop (k + 1) xs)) here
    ∙ ap (position_from (eq q) k) (sym (drop_more xs k x below))

-- a first place is the end of the items that fail
pub found_at : {K : Type 0} (p : K → Bool) (xs : List K) (i k : ℕ) → position_from p i xs ≡ Some k → i + position_or_len p xs ≡ k
found_at p [] i k h = cc
found_at p (x ∷ xs) i k h = decide (p x) refl (found_at p xs (i + 1) k) h
  where
    decide : (w : Bool) → p x ≡ w → (position_from p (i + 1) xs ≡ Some k → i + 1 + position_or_len p xs ≡ k)
        → cond w (Some i) (position_from p (i + 1) xs) ≡ Some k → i + position_or_len p (x ∷ xs) ≡ k
    decide true e more h = let same : i ≡ k = cc in rw e (omega arith)
    decide false e more h = let rest = more h in rw e (omega arith)

-- without one all items fail
pub found_nowhere : {K : Type 0} (p : K → Bool) (xs : List K) (i : ℕ) → position_from p i xs ≡ None → position_or_len p xs ≡ length xs
found_nowhere p [] i h = refl
found_nowhere p (x ∷ xs) i h = decide (p x) refl (found_nowhere p xs (i + 1)) h
  where
    decide : (w : Bool) → p x ≡ w → (position_from p (i + 1) xs ≡ None → position_or_len p xs ≡ length xs)
        → cond w (Some i) (position_from p (i + 1) xs) ≡ None → position_or_len p (x ∷ xs) ≡ length (x ∷ xs)
    decide true e more h = cc
    decide false e more h = let rest = more h in rw e (omega arith)

pub position_within : {K : Type 0} (p : K → Bool) (xs : List K) → position_or_len p xs ≤ length xs
position_within p [] = omega arith
position_within p (x ∷ xs) = decide (p x) refl (position_within p xs)
  where
    decide : (w : Bool) → p x ≡ w → position_or_len p xs ≤ length xs → position_or_len p (x ∷ xs) ≤ length (x ∷ xs)
    decide true e more = rw e (omega arith)
    decide false e more = rw e (omega arith)

pub keys_within : {K : Type 0} (code : K → ℤ) (p : ℤ → Bool) (xs : List K) → position_or_len p (map code xs) ≤ length xs
keys_within code p xs = let within = position_within p (map code xs) in let long = length-map xs code in omega arith

-- ---- results of a list, made from the front by a loop over it

pub mapped_more : {A : Type 0} (f : A → ℤ) (xs : List A) (k : ℕ) (x : A) (made more : List ℤ) (y : ℤ) → k < length xs → x ≡ get_or xs k x
    → made ≡ map f (take k xs) → y ≡ f x → SFits w64 y → more ≡ made ++ to_z w64 (of_z w64 y) ∷ [] → more ≡ map f (take (k + 1) xs)
mapped_more f xs k x made more y below here so_far gives fits pushed =
    pushed
    ∙ ap (λ z. made ++ z ∷ []) (to_z-of_z w64 y fits)
    ∙ ap (λ ys. ys ++ y ∷ []) so_far
    ∙ ap (λ z. map f (take k xs) ++ z ∷ []) gives
    ∙ sym (map-append f (take k xs) (x ∷ []))
    ∙ ap (λ z. map f (take k xs ++ z ∷ [])) here
    ∙ ap (map f) (sym (take_more xs k x below))
