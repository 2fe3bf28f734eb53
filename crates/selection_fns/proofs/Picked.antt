-- The copies of a vector's items, or of a scalar's.
use Rattle.std.{proofs.Common.{◌≡◌, ℕ, ◌+◌, ◌-◌, ◌*◌, ◌/◌, ◌<◌, ◌≤◌, Bool, true, false, nat_le, nat_eq, ◌&&◌, if◌then◌else◌, List, [], ◌∷◌, map, length, get_or, set, insert, remove, Some, None, Ok, refl, ap, sym, ◌∙◌, arith}, specs.Prelude.{max, sum, unwrap_or}, proofs.lemmas.Bool.Decides.{nat_tests}}
use Rattle.std.{proofs.lemmas.List.{length-map, get_or-map}, proofs.Math.Nat.{div-one}, proofs.Math.ListN.{get_or-eq_default}}
use Rattle.arrays_core.{specs.declared.item.Item.{Item}, specs.declared.item.ItemType.{ItemType}, specs.Items.{fill, and_then}, specs.Shapes.{size, index_after}, specs.Arrays.{ArrayValue, item_if_there, collect, with_items}, proofs.Order.{given_in_order}}
use Rattle.function_names.{specs.declared.along.Along.{Along}, specs.Axes.{axis_at}}
use Rattle.index_region.{specs.Checks.{form_of}, specs.Axes.{places_along}, specs.Sources.{Place, item_from}, proofs.RowIndices.{axis_below}}
use Rattle.selection_fns.{specs.Replicate.{times, copied_place, replicate_form, replicate_item, replicate_whole}, specs.Laws.CopiedPlaces.{replicate_gives}}

-- the item of a vector after k places, or fill
read_vector : (b : ArrayValue) (n place : ℕ) → b.shape ≡ n ∷ [] → length b.items ≡ n → 1 ≤ place
    → unwrap_or (item_if_there b (place ∷ [])) (fill b.item_type) ≡ get_or b.items (place - 1) (fill b.item_type)
read_vector b n place is as_many low = decide (nat_le place n) refl
  where
    lower : nat_le 1 place ≡ true
    lower = grind (arith, nat_tests)

    read : (w : Bool) → nat_le place n ≡ w → unwrap_or (item_if_there b (place ∷ [])) (fill b.item_type)
        ≡ unwrap_or (if w then Some (get_or b.items ((place - 1) * 1 + 0) (fill b.item_type)) else None) (fill b.item_type)
    read w h = rw (is, lower, h) (either w)
      where
        either : (w : Bool) → unwrap_or (if (w && true) then Some (get_or b.items ((place - 1) * 1 + 0) (fill b.item_type)) else None) (fill b.item_type)
            ≡ unwrap_or (if w then Some (get_or b.items ((place - 1) * 1 + 0) (fill b.item_type)) else None) (fill b.item_type)
        either true = refl
        either false = refl

    decide : (w : Bool) → nat_le place n ≡ w → unwrap_or (item_if_there b (place ∷ [])) (fill b.item_type) ≡ get_or b.items (place - 1) (fill b.item_type)
    decide true h = read true h ∙ ap (λ j. get_or b.items j (fill b.item_type)) (omega arith)
    decide false h =
        let above : n < place = grind (arith, nat_tests) in
        read false h ∙ sym (get_or-eq_default b.items (fill b.item_type) (omega arith))

module _ (along : Along) (a b : ArrayValue) (shape before : List ℕ) (item_type : ItemType)
    (few : length b.shape ≤ 1) (as_many : length b.items ≡ size b.shape)
    (form : replicate_form along a b ≡ Ok (form_of shape item_type))
    (long : length before ≡ sum (times a (places_along b.shape (axis_at (max 1 (length b.shape)) along))))
    (is : (i : ℕ) → i < length before → get_or before i 0 + 1 ≡ copied_place a (places_along b.shape (axis_at (max 1 (length b.shape)) along)) (i + 1)) where
  abbrev picked : List Item
  picked = map (λ k. get_or b.items k (fill b.item_type)) before

  first_axis : axis_at (max 1 (length b.shape)) along ≡ 0
  first_axis = omega (arith, axis_below (max 1 (length b.shape)) along (replicate_gives along a b shape item_type form).axis (omega arith))

  one_axis : shape ≡ length before ∷ []
  one_axis =
      let total = sum (times a (places_along b.shape (axis_at (max 1 (length b.shape)) along))) in
      (replicate_gives along a b shape item_type form).shaped ∙ ap (λ k. insert (remove b.shape k) k total) first_axis ∙ alone b.shape few total ∙ ap (λ n. n ∷ []) (sym long)
    where
      alone : (s : List ℕ) → length s ≤ 1 → (total : ℕ) → insert (remove s 0) 0 total ≡ total ∷ []
      alone [] h total = refl
      alone (n ∷ []) h total = refl
      alone (n ∷ m ∷ s) h total = absurd (omega arith)

  pub picked_long : length before ≡ size shape
  picked_long = let e : length before ≡ length before * 1 = omega arith in e ∙ ap size (sym one_axis)

  copy_at : (k : ℕ) → k < length before → replicate_item along a b ((k / 1 + 1) ∷ []) ≡ Ok (get_or b.items (get_or before k 0) (fill b.item_type))
  copy_at k h =
      let index : List ℕ = (k / 1 + 1) ∷ [] in
      ap (λ m. item_from a b b.item_type (Place 1 (if nat_eq (length b.shape) 0 then [] else set index m (copied_place a (places_along b.shape m) (get_or index m 1))))) first_axis
      ∙ by_rank b.shape refl few (is k h ∙ ap (λ m. copied_place a (places_along b.shape m) (k + 1)) first_axis)
    where
      next : k / 1 + 1 ≡ k + 1
      next = ap (λ m. m + 1) (div-one k)

      by_rank : (s : List ℕ) → b.shape ≡ s → length s ≤ 1 → get_or before k 0 + 1 ≡ copied_place a (places_along s 0) (k + 1)
          → item_from a b b.item_type (Place 1 (if nat_eq (length s) 0 then [] else set ((k / 1 + 1) ∷ []) 0 (copied_place a (places_along s 0) (k / 1 + 1))))
          ≡ Ok (get_or b.items (get_or before k 0) (fill b.item_type))
      by_rank [] same rank place =
          let none : get_or before k 0 ≡ 0 = omega arith in
          rw (same, none) refl
      by_rank (n ∷ []) same rank place =
          let sized : length b.items ≡ n = as_many ∙ ap size same ∙ (let e : n * 1 ≡ n = omega arith in e) in
          let at : copied_place a n (k / 1 + 1) ≡ get_or before k 0 + 1 = ap (copied_place a n) next ∙ sym place in
          let less : get_or before k 0 + 1 - 1 ≡ get_or before k 0 = omega arith in
          ap (λ p. Ok (unwrap_or (item_if_there b (p ∷ [])) (fill b.item_type))) at
          ∙ ap (λ (x : Item). Ok x) (read_vector b n (get_or before k 0 + 1) same sized (omega arith) ∙ ap (λ j. get_or b.items j (fill b.item_type)) less)
      by_rank (n ∷ m ∷ s) same rank place = absurd (omega arith)

  each : (k : ℕ) → k < size (length before ∷ []) → replicate_item along a b (index_after (length before ∷ []) k) ≡ Ok (get_or picked k (fill b.item_type))
  each k h =
      let below : k < length before = omega arith in
      copy_at k below ∙ sym (ap (λ (x : Item). Ok x) (get_or-map (λ j. get_or b.items j (fill b.item_type)) before k 0 (fill b.item_type) below))

  pub picked_copies : replicate_whole along a b ≡ Ok (record { item_type = b.item_type; shape = shape; items = picked })
  picked_copies =
      let known = replicate_gives along a b shape item_type form in
      let plain : replicate_form along a b ≡ Ok (form_of (length before ∷ []) b.item_type) = form ∙ ap (λ (s : List ℕ). Ok (form_of s item_type)) one_axis ∙ ap (λ (t : ItemType). Ok (form_of (length before ∷ []) t)) known.typed in
      ap (λ r. and_then r (λ f. collect f.item_type f.shape (replicate_item along a b))) plain
      ∙ ap (with_items b.item_type (length before ∷ [])) (given_in_order (length before ∷ []) (replicate_item along a b) picked (fill b.item_type) (length-map before (λ k. get_or b.items k (fill b.item_type)) ∙ picked_long ∙ ap size one_axis) each)
      ∙ ap (λ (s : List ℕ). Ok (record { item_type = b.item_type; shape = s; items = picked })) (sym one_axis)
