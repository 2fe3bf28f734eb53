-- The law of replicate.
use Rattle.std.{proofs.Common.{◌≡◌, ℕ, zero, suc, ◌-◌, ◌<◌, ◌≤◌, true, false, nat_eq, nat_le, List, [], ◌∷◌, length, take, get_or, insert, remove, set, refl, sym, ap, ◌∙◌, subst, arith, Option, Ok, if◌then◌else◌, inl, inr}, specs.Prelude.{max, sum}}
use Rattle.std.{proofs.lemmas.Bool.{cases_Bool, cond-true, cond-false, eqb-false, leb-true}, proofs.lemmas.Bool.Decides.{nat_tests}, proofs.lemmas.List.{get_or_default}}
use Rattle.arrays_core.{specs.Arrays.{ArrayValue}, specs.Shapes.{is_index_of}}
use Rattle.function_names.{specs.declared.along.Along.{Along}, specs.Axes.{axis_at}}
use Rattle.index_region.{specs.Arguments.{is_scalar}, specs.Axes.{places_along}, specs.Boxes.{Interval, is_within}, specs.Checks.{Form}, proofs.RowIndices.{axis_below}}
use Rattle.change_core.{specs.Tightness.{Covered, IsTight}, specs.Reaches.{is_moved}, specs.Sourced.{right_used}, proofs.Sourced.{selected_sourced-tight}, proofs.UsedWays.{Follows, within-set, within-whole}}
use Rattle.selection_fns.{specs.Replicate.{times, copied_place, replicate_form, replicate_source, copied_interval, replicate_box, replicate_rule}, specs.Laws.CopiedPlaces.{exchanged_there, is_copied, replicate_gives}, specs.Laws.RepeatedPlaces.{maker_is_walk, sum_front, walk}}

past : (i count : ℕ) → nat_le i count ≡ false → count < i
past i count f = grind (arith, nat_tests)

-- a copy of a later place comes after all copies of earlier ones
walk_after : (counts : List ℕ) (i k : ℕ) → 1 ≤ i → i ≤ sum counts → k < walk counts i → sum (take k counts) < i
walk_after [] i k low high h = absurd (omega arith)
walk_after (count ∷ counts) i zero low high h = low
walk_after (count ∷ counts) i (suc k) low high h = elim (cases_Bool (nat_le i count)) [
  | inl t ↦ let first : walk (count ∷ counts) i ≡ 1 = cond-true _ _ _ t in absurd (omega (arith, first, h))
  | inr f ↦
      let later : walk (count ∷ counts) i ≡ suc (walk counts (i - count)) = cond-false _ _ _ f in
      let above : count < i = past i count f in
      let all = sum_front count counts in
      let rest = walk_after counts (i - count) k (omega arith) (omega (arith, all, high)) (omega (arith, later, h)) in
      let front = sum_front count (take k counts) in
      omega (arith, front, rest, above)
]

-- a copy of an earlier place is one of the first copies
walk_before : (counts : List ℕ) (i k : ℕ) → 1 ≤ i → i ≤ sum counts → walk counts i ≤ k → i ≤ sum (take k counts)
walk_before [] i k low high h = absurd (omega arith)
walk_before (count ∷ counts) i zero low high h = elim (cases_Bool (nat_le i count)) [
  | inl t ↦ let first : walk (count ∷ counts) i ≡ 1 = cond-true _ _ _ t in absurd (omega (arith, first, h))
  | inr f ↦ let later : walk (count ∷ counts) i ≡ suc (walk counts (i - count)) = cond-false _ _ _ f in absurd (omega (arith, later, h))
]
walk_before (count ∷ counts) i (suc k) low high h =
    let front = sum_front count (take k counts) in
    elim (cases_Bool (nat_le i count)) [
      | inl t ↦ let within = leb-true i count t in omega (arith, front, within)
      | inr f ↦
          let later : walk (count ∷ counts) i ≡ suc (walk counts (i - count)) = cond-false _ _ _ f in
          let above : count < i = past i count f in
          let all = sum_front count counts in
          let rest = walk_before counts (i - count) k (omega arith) (omega (arith, all, high)) (omega (arith, later, h)) in
          omega (arith, front, rest, above)
    ]

-- copies of the places of an interval lie in the interval of their copies
copies_follow : (a : ArrayValue) (n copies i : ℕ) → 1 ≤ i → i ≤ copies → copies ≡ sum (times a n) → Follows (copied_interval a n copies) i (copied_place a n i)
copies_follow a n copies i low high all s first from to = elim (cases_Bool (nat_eq n 1)) [
  | inl t ↦ subst There (sym (cond-true _ _ _ t)) (low, high)
  | inr f ↦
      let counts = times a n in
      let place : copied_place a n i ≡ walk counts i = cond-false _ _ _ f ∙ maker_is_walk counts i low (omega (arith, all, high)) in
      let before = walk_after counts i (s.0 - 1) low (omega (arith, all, high)) (omega (arith, place, first, from)) in
      let within = walk_before counts i s.1 low (omega (arith, all, high)) (omega (arith, place, to)) in
      subst There (sym (cond-false _ _ _ f)) (before, within)
]
  where
    There : Interval → Type 0
    There t = (t.0 ≤ i) × (i ≤ t.1)

replicate_covered : (along : Along) (a b : ArrayValue) (f : Form) → replicate_form along a b ≡ Ok f → Covered b.shape f.shape (right_used (replicate_source along a b) (replicate_box along f.shape a b))
replicate_covered along a b f e region index fit place = (inside, tt)
  where
    axis : ℕ
    axis = axis_at (max 1 (length b.shape)) along

    n : ℕ
    n = places_along b.shape axis

    inside : is_within region (if is_scalar b then [] else set index axis (copied_place a n (get_or index axis 1))) ≡ true → is_moved (replicate_box along f.shape a b region) index ≡ true
    inside h = elim (cases_Bool (nat_eq (length b.shape) 0)) [
      | inl t ↦ ap (λ (o : Option (List Interval)). is_moved o index) (cond-true _ _ _ t) ∙ within-whole f.shape index ∙ place
      | inr o ↦
          let known = replicate_gives along a b f.shape f.item_type e in
          let some : 0 < length b.shape = grind (arith, eqb-false _ _ o) in
          let below : axis < length b.shape = let l = axis_below (max 1 (length b.shape)) along known.axis (omega arith) in omega arith in
          let here : is_index_of (insert (remove b.shape axis) axis (sum (times a n))) index ≡ true = subst (λ (s : List ℕ). is_index_of s index ≡ true) known.shaped place in
          let copied = is_copied b.shape axis (sum (times a n)) index below here in
          let there : axis < length index = let l = copied.long in omega arith in
          let same : get_or index axis 1 ≡ get_or index axis 0 = get_or_default index axis 1 0 there in
          let copies : get_or f.shape axis 0 ≡ sum (times a n) = ap (λ (s : List ℕ). get_or s axis 0) known.shaped ∙ (exchanged_there along b.shape (sum (times a n)) known.axis).is in
          let low : 1 ≤ get_or index axis 1 = let l = copied.low in omega arith in
          let high : get_or index axis 1 ≤ get_or f.shape axis 0 = let u = copied.high in omega arith in
          ap (λ (o : Option (List Interval)). is_moved o index) (cond-false _ _ _ o)
          ∙ within-set 1 axis _ (copied_interval a n (get_or f.shape axis 0)) b.shape region index fit (λ t. copies_follow a n (get_or f.shape axis 0) (get_or index axis 1) low high copies) (rw (o) at h)
    ]

pub replicate_tight : (along : Along) → IsTight (replicate_rule along)
replicate_tight along = selected_sourced-tight (replicate_form along) (λ a b. b.item_type) (replicate_source along) (replicate_box along)
    (λ a d ys n. refl) (λ a d ys n. refl) (λ a d ys index n. refl) (λ a b index. refl) (replicate_covered along)
