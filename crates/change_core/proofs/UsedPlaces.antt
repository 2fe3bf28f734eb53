-- Uses by place are covered.
use Rattle.std.{proofs.Common.{◌≡◌, ℕ, ◌-◌, ◌*◌, ◌%◌, ◌≤◌, ◌<◌, List, [], ◌∷◌, ap, ◌∙◌, subst, arith, true, Option, inl, inr, nat_lt, min}, proofs.lemmas.Bool.{and_parts, leb-true, ltb-false, false≢true, cases_Bool, cond-true, cond-false, lt-ltb}, proofs.lemmas.Nat.{mul-le}, proofs.Math.Nat.{mod-eq_of_lt}}
use Rattle.arrays_core.{specs.Shapes.{is_index_of, size, places_before, index_after}, proofs.Shapes.{places_below}, proofs.Order.{places_before-index_after}}
use Rattle.index_region.{proofs.Least.{within-whole, cover-within}, specs.Boxes.{Interval, is_within}}
use Rattle.change_core.{specs.Tightness.{Covered}, specs.Places.{by_place, cover_in, first_of_box, last_of_box}, specs.Reaches.{is_moved}}

-- an index list of the box lies between its first and last index list in the ravel
pub offset_between : (axes : List ℕ) (region : List Interval) (index : List ℕ) → is_within region index ≡ true → (places_before axes (first_of_box region) ≤ places_before axes index) × (places_before axes index ≤ places_before axes (last_of_box region))
offset_between axes [] [] h = (omega arith, omega arith)
offset_between axes [] (i ∷ index) h = absurd (false≢true h)
offset_between axes (s ∷ region) [] h = absurd (false≢true h)
offset_between [] (s ∷ region) (i ∷ index) h = (omega arith, omega arith)
offset_between (n ∷ axes) (s ∷ region) (i ∷ index) h =
    let parts = and_parts _ _ h in
    let first = and_parts _ _ parts.0 in
    let low : s.0 ≤ i = leb-true s.0 i first.0 in
    let high : i ≤ s.1 = leb-true i s.1 first.1 in
    let rest = offset_between axes region index parts.1 in
    let r0 : places_before axes (first_of_box region) ≤ places_before axes index = rest.0 in
    let r1 : places_before axes index ≤ places_before axes (last_of_box region) = rest.1 in
    let a : (s.0 - 1) * size axes ≤ (i - 1) * size axes = mul-le (s.0 - 1) (size axes) (i - 1) (size axes) (omega arith) (omega arith) in
    let b : (i - 1) * size axes ≤ (s.1 - 1) * size axes = mul-le (i - 1) (size axes) (s.1 - 1) (size axes) (omega arith) (omega arith) in
    (omega arith, omega arith)

by_place-within : (from shape : List ℕ) (region : List Interval) (index : List ℕ) → is_index_of shape index ≡ true → size shape ≤ size from → is_within region (index_after from (places_before shape index % size from)) ≡ true → is_moved (cover_in shape (places_before from (first_of_box region)) (places_before from (last_of_box region))) index ≡ true
by_place-within from shape region index place few inside =
    let lo = places_before from (first_of_box region) in
    let hi = places_before from (last_of_box region) in
    let at = places_before shape index in
    let below : at < size shape = places_below shape index place in
    let within_from : at < size from = omega arith in
    let here : is_within region (index_after from at) ≡ true = subst (λ (p : ℕ). is_within region (index_after from p) ≡ true) (mod-eq_of_lt within_from) inside in
    let between = offset_between from region (index_after from at) here in
    let back : places_before from (index_after from at) ≡ at = places_before-index_after from at within_from in
    let low : lo ≤ at = subst (λ (p : ℕ). lo ≤ p) back between.0 in
    let high : at ≤ hi = subst (λ (p : ℕ). p ≤ hi) back between.1 in
    let there : nat_lt lo (size shape) ≡ true = lt-ltb lo (size shape) (omega arith) in
    ap (λ (o : Option (List Interval)). is_moved o index) (cond-true _ _ _ there) ∙ cover-within shape index lo (min hi (size shape - 1)) place low (omega arith) (omega arith)

-- reshape and ravel
pub by_place-covered : (from shape : List ℕ) → Covered from shape (by_place from shape)
by_place-covered from shape region index fit place = (inside, tt)
  where
    inside : is_within region (index_after from (places_before shape index % size from)) ≡ true → is_moved ((by_place from shape).box region) index ≡ true
    inside h = elim (cases_Bool (nat_lt (size from) (size shape))) [
      | inl t ↦ ap (λ (o : Option (List Interval)). is_moved o index) (cond-true _ _ _ t) ∙ within-whole shape index ∙ place
      | inr f ↦ ap (λ (o : Option (List Interval)). is_moved o index) (cond-false _ _ _ f) ∙ by_place-within from shape region index place (ltb-false _ _ f) h
    ]
