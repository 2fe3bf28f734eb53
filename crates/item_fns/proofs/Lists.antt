-- Results at each place of two lists.
use Rattle.std.{proofs.Common.{◌≡◌, ℕ, ◌<◌, ◌==◌, false, List, length, get_or, map, refl, ap, sym, ◌∙◌, inl, inr, arith, ℤ, pos, Result, Ok}, proofs.lemmas.Bool.{eq-eqb, eqb-true, false_from_ne_true, cases_Bool}, proofs.lemmas.List.{length-map, ext_get_or, get_or-map}}
use Rattle.{std.{specs.List.{range_with_len}, proofs.lemmas.List.FromFn.{length-map-range_with_len, get_or-map-range_with_len, fill_by_all}}, arrays_core.specs.declared.item.Kind.{Kind}}
use Rattle.item_fns.specs.NumberLists.{number_at, paired_length, results_by}

not_one : (n : ℕ) → (n ≡ 1 → ⊥) → (n == 1) ≡ false
not_one n h = false_from_ne_true _ (λ t. h (eqb-true n 1 t))

pub number_at_own : (xs : List ℤ) (k : ℕ) → k < length xs → number_at xs k ≡ get_or xs k (pos 0)
number_at_own xs k h =
    elim (cases_Bool (length xs == 1)) [
      | inl one ↦
          let e : length xs ≡ 1 = eqb-true (length xs) 1 one in
          rw one (ap (λ j. get_or xs j (pos 0)) (omega arith))
      | inr many ↦ rw many refl
    ]

pub places_of_one : (xs ys : List ℤ) → length xs ≡ 1 → paired_length xs ys ≡ length ys
places_of_one xs ys h = let one = eq-eqb (length xs) 1 h in rw one refl

pub places_of_many : (xs ys : List ℤ) → (length xs ≡ 1 → ⊥) → paired_length xs ys ≡ length xs
places_of_many xs ys h = let many = not_one (length xs) h in rw many refl

pub places_of_equal : (xs ys : List ℤ) → length xs ≡ length ys → paired_length xs ys ≡ length xs
places_of_equal xs ys h =
    elim (cases_Bool (length xs == 1)) [ inl one ↦ rw one (sym h) | inr many ↦ rw many refl ]

pub each_place : (f : ℤ → Result ℤ Kind) (xs : List ℤ) → map f xs ≡ map (λ k. f (get_or xs k (pos 0))) (range_with_len 0 (length xs))
each_place f xs =
    let d : Result ℤ Kind = Ok (pos 0) in
    fill_by_all (λ k. f (get_or xs k (pos 0))) (map f xs) (length xs) d (length-map xs f) (λ k below. get_or-map f xs k (pos 0) d below)

module _ (f : ℤ → ℤ → Result ℤ Kind) (xs ys : List ℤ) where
  pub length-results : length (results_by f xs ys) ≡ paired_length xs ys
  length-results = length-map-range_with_len (λ k. f (number_at xs k) (number_at ys k)) 0 (paired_length xs ys)

  pub get_or-results : (k : ℕ) (d : Result ℤ Kind) → k < paired_length xs ys → get_or (results_by f xs ys) k d ≡ f (number_at xs k) (number_at ys k)
  get_or-results k d h = get_or-map-range_with_len (λ j. f (number_at xs j) (number_at ys j)) 0 (paired_length xs ys) k k d h (omega arith)

  -- if both have one length, each place has the result of the numbers there
  pub own_result : (k : ℕ) (d : Result ℤ Kind) → length xs ≡ length ys → k < length xs → get_or (results_by f xs ys) k d ≡ f (get_or xs k (pos 0)) (get_or ys k (pos 0))
  own_result k d equal h =
      get_or-results k d (omega (arith, places_of_equal xs ys equal))
      ∙ (rw (number_at_own xs k h, number_at_own ys k (omega arith)) refl)

  pub results_of_pairs : length xs ≡ length ys → results_by f xs ys ≡ map (λ k. f (get_or xs k (pos 0)) (get_or ys k (pos 0))) (range_with_len 0 (length xs))
  results_of_pairs equal =
      let d : Result ℤ Kind = Ok (pos 0) in
      fill_by_all (λ k. f (get_or xs k (pos 0)) (get_or ys k (pos 0))) (results_by f xs ys) (length xs) d (length-results ∙ places_of_equal xs ys equal) (λ k below. own_result k d equal below)

  pub results_of_one_left : length xs ≡ 1 → results_by f xs ys ≡ map (f (get_or xs 0 (pos 0))) ys
  results_of_one_left h =
      let d : Result ℤ Kind = Ok (pos 0) in
      let long : length (results_by f xs ys) ≡ length ys = length-results ∙ places_of_one xs ys h in
      ext_get_or d (results_by f xs ys) (map (f (get_or xs 0 (pos 0))) ys) (long ∙ sym (length-map ys (f (get_or xs 0 (pos 0))))) (λ k below.
      let inside : k < length ys = omega arith in
      get_or-results k d (omega (arith, places_of_one xs ys h))
      ∙ (rw (eq-eqb (length xs) 1 h) (ap (f (get_or xs 0 (pos 0))) (number_at_own ys k inside)))
      ∙ sym (get_or-map (f (get_or xs 0 (pos 0))) ys k (pos 0) d inside))

  pub results_of_one_right : (length xs ≡ 1 → ⊥) → length ys ≡ 1 → results_by f xs ys ≡ map (λ a. f a (get_or ys 0 (pos 0))) xs
  results_of_one_right many h =
      let d : Result ℤ Kind = Ok (pos 0) in
      let long : length (results_by f xs ys) ≡ length xs = length-results ∙ places_of_many xs ys many in
      ext_get_or d (results_by f xs ys) (map (λ a. f a (get_or ys 0 (pos 0))) xs) (long ∙ sym (length-map xs (λ a. f a (get_or ys 0 (pos 0))))) (λ k below.
      let inside : k < length xs = omega arith in
      get_or-results k d (omega (arith, places_of_many xs ys many))
      ∙ (rw (eq-eqb (length ys) 1 h) (ap (λ a. f a (get_or ys 0 (pos 0))) (number_at_own xs k inside)))
      ∙ sym (get_or-map (λ a. f a (get_or ys 0 (pos 0))) xs k (pos 0) d inside))
