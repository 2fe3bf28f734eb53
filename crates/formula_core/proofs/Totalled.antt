-- The number of joins for totals.
use Rattle.std.{proofs.Common.{◌≡◌, ℕ, ◌+◌, ◌-◌, ◌*◌, ◌≤◌, ◌<◌, min, nat_lt, Bool, true, false, ◌&&◌, ◌||◌, is_ok, is_some, List, [], ◌∷◌, Some, None, Result, Ok, Err, IfOk, refl, sym, ap, ◌∙◌, subst, arith, inl, inr, length, if◌then◌else◌}, specs.Borrow.{Bor}, specs.declared.alloc.AllocError.{AllocError}}
use Rattle.std.{proofs.lemmas.Bool.{and_from, and_parts, cases_Bool, cond-false, cond-true, eqb-true, false≢true, le-ltb, lt-ltb, ltb-false, ltb-true}, proofs.lemmas.Result.{IfOk-weaker}, proofs.Math.Nat.{mul-le-mul, mul-le-mul_left, mul-le-mul_right}}
use Rattle.apl_expr.specs.declared.functions.Function1.{Function1}
use Rattle.arrays_core.{specs.Arrays.{ArrayValue}, specs.Growth.{grown_by, one_longer}, specs.Shapes.{size}, proofs.Growing.{rank_longer}, specs.Outcomes.{Outcome}}
use Rattle.index_region.{specs.Arguments.{is_of_numbers}, specs.Tails.{TailValue}, specs.declared.delta.Delta.{Delta}, specs.declared.delta.Delta.TheVariants.{Same, Patch, Grown, Whole}, specs.Patches.{FitsPatch, PatchValue, patched}, proofs.Patched.{box_within_size}, proofs.Walks.{some_place}}
use Rattle.{function_names.{specs.Axes.{axis_at, is_axis}, specs.declared.along.Along.{Along}}, reduce_fns.specs.declared.reduce.Reduce.{Reduce}}
use Rattle.{fold_trees.specs.FoldTrees.{has_trees}, change_core.specs.Meters.{ticked}, change_rules.specs.Nodes.{is_error}}
use Rattle.sum_rules.{specs.LineSums.{SummedValue, keeps_sums, length_along, line_length, line_step, most_without_tree}, specs.Totals.{AreFolds, AreFoldsWithin, HasAllJoins, HasJoins, is_narrow, new_items, total_rule}, proofs.KeptSums.{along_axis, kept_parts}, proofs.MorePlaces.{between, longer}}
use Rattle.formula_core.{specs.declared.input.Input.TheVariants.{Good}, specs.Changes.{FitsNow, operation_cost}, specs.Joins.{binary_digits, had_trees, has_trees_for, least_joins_of}, specs.Rules.{right_rule}, specs.Stages.{AreTotalsJoined}, specs.Sums.{AreSumsKept, IsSummedFor, total_of}}
use Rattle.formula_core.{proofs.Digits.{few_within_digits, within_digits}, proofs.Narrow.{grown_within, patch_within}, proofs.Summed.{kept_of}}
use Rattle.apl_expr.specs.declared.functions.Function1.TheVariants as function1

-- a total follows the rule of its fold
pub total_is : (f : Function1) (fold : Reduce) → total_of f ≡ Some fold → right_rule f ≡ total_rule fold
total_is (function1.Reduce f k) fold h = elim (cases_Bool (has_trees f)) [
  | inl t ↦ let whole : Some (record { function = f; along = k }) ≡ Some fold = sym (cond-true (has_trees f) _ None t) ∙ h in
      let same : record { function = f; along = k } ≡ fold = cc in
      ap total_rule same
  | inr without ↦
      let none : None ≡ Some fold = sym (cond-false (has_trees f) (Some (record { function = f; along = k })) None without) ∙ h in
      absurd (let none : ⊥ = cc in none)
]
total_is f fold h = absurd (false≢true (ap is_some h))

-- a total's function has folds that are kept as trees
pub total_has : (f : Function1) (fold : Reduce) → total_of f ≡ Some fold → has_trees fold.function ≡ true
total_has (function1.Reduce f k) fold h = elim (cases_Bool (has_trees f)) [
  | inl t ↦ let whole : Some (record { function = f; along = k }) ≡ Some fold = sym (cond-true (has_trees f) _ None t) ∙ h in
      let same : record { function = f; along = k } ≡ fold = cc in
      ap (λ (r : Reduce). has_trees r.function) (sym same) ∙ t
  | inr without ↦
      let none : None ≡ Some fold = sym (cond-false (has_trees f) (Some (record { function = f; along = k })) None without) ∙ h in
      absurd (let none : ⊥ = cc in none)
]
total_has f fold h = absurd (false≢true (ap is_some h))

-- lines with places lie along an axis of the array
has_axis_along : (along : Along) (shape : List ℕ) → 0 < length_along along shape → is_axis (length shape) along ≡ true
has_axis_along along shape long = elim (cases_Bool (is_axis (length shape) along)) [
  | inl w ↦ w
  | inr f ↦ absurd (let none = cond-false (is_axis (length shape) along) (line_length (axis_at (length shape) along) shape) 0 f in omega (arith, long, none))
]

-- lines along the first axis of a grown array have one more place
one_more_place : (along : Along) (a b : ArrayValue) (t : TailValue) → axis_at (length a.shape) along ≡ 0 → 0 < length b.shape → a ≡ grown_by b t.items → is_axis (length b.shape) along ≡ true
    → length_along along a.shape ≡ length_along along b.shape + 1
one_more_place along a b t first some same on =
    let shaped : a.shape ≡ one_longer b.shape = ap (λ (x : ArrayValue). x.shape) same in
    let rank : length a.shape ≡ length b.shape = ap (λ (x : List ℕ). length x) shaped ∙ rank_longer b.shape in
    let before : axis_at (length b.shape) along ≡ 0 = ap (λ n. axis_at n along) (sym rank) ∙ first in
    along_axis along a.shape (ap (λ n. is_axis n along) rank ∙ on)
    ∙ (λ i. line_length (first i) (shaped i))
    ∙ longer b.shape some
    ∙ ap (λ k. k + 1) (sym (along_axis along b.shape on ∙ ap (λ k. line_length k b.shape) before))

or_right : (b q : Bool) → q ≡ true → (b || q) ≡ true
or_right true q h = refl
or_right false q h = h

or_left : (b q : Bool) → q ≡ false → (b || q) ≡ true → b ≡ true
or_left true q h e = refl
or_left false q h e = absurd (false≢true (sym h ∙ e))

not_first : (b q : Bool) → (b ≡ true → q ≡ true) → (b && q) ≡ false → b ≡ false
not_first true q h e = absurd (false≢true (sym e ∙ h refl))
not_first false q h e = refl

-- an array with kept sums has long lines of numbers, and had them before it grew
pub kept_serve : (fold : Reduce) (a : ArrayValue) (d : Delta) (held : Outcome) (s : SummedValue) → IsSummedFor fold (Ok a) d (Some s) → is_narrow (axis_at (length a.shape) fold.along) d ≡ true
    → ((is_of_numbers a.item_type && had_trees d held (length_along fold.along a.shape)) ≡ true) × (1 < length_along fold.along a.shape)
kept_serve fold a (Patch p) held s summed narrow =
    let was = summed.changed p s refl refl in
    let kept = kept_parts fold s.array (kept_of fold (Ok s.array) s (sym was.lines)).long in
    let becomes : Ok a ≡ Ok (patched s.array p) = was.becomes in
    let same : a ≡ patched s.array p = cc in
    let long : length_along fold.along a.shape ≡ line_length (axis_at (length s.array.shape) fold.along) s.array.shape =
    ap (λ (x : ArrayValue). length_along fold.along x.shape) same ∙ along_axis fold.along s.array.shape kept.on_axis in (
      and_from _ _ (ap (λ (x : ArrayValue). is_of_numbers x.item_type) same ∙ ap is_of_numbers kept.numbers)
          (or_right (is_ok held) _ (lt-ltb most_without_tree (length_along fold.along a.shape) (omega (arith, long, kept.long)))),
      omega (arith, long, kept.long),
    )
kept_serve fold a (Grown t) held s summed narrow =
    let was = summed.grew t s refl refl in
    let kept = kept_parts fold s.array (kept_of fold (Ok s.array) s (sym was.lines)).long in
    let becomes : Ok a ≡ Ok (grown_by s.array t.items) = was.becomes in
    let same : a ≡ grown_by s.array t.items = cc in
    let long = one_more_place fold.along a s.array t (eqb-true _ _ narrow) was.fit.some_axis same kept.on_axis in
    let before = along_axis fold.along s.array.shape kept.on_axis in (
      and_from _ _ (ap (λ (x : ArrayValue). is_of_numbers x.item_type) same ∙ ap is_of_numbers kept.numbers) (lt-ltb most_without_tree (length_along fold.along a.shape - 1) (omega (arith, long, before, kept.long))),
      omega (arith, long, before, kept.long),
    )
kept_serve fold a Same held s summed narrow = absurd (false≢true narrow)
kept_serve fold a (Whole r) held s summed narrow = absurd (false≢true narrow)

-- a property of a result, from two of its properties
both_ok : (r : Result (Delta × ℕ) AllocError) (P Q R : Delta × ℕ → Type 0) → ((s : Delta × ℕ) → P s → Q s → R s) → IfOk r P → IfOk r Q → IfOk r R
both_ok (Ok s) P Q R step p q = step s p q
both_ok (Err e) P Q R step p q = tt

-- each line of two numbers takes at least one join
at_least : (before after totals new long : ℕ) → after ≡ ticked before (totals * (long - 1)) → ticked before (if nat_lt 1 long then min totals new else 0) ≤ after
at_least before after totals new long is = elim (cases_Bool (nat_lt 1 long)) [
  | inl t ↦
      let two = ltb-true 1 long t in
      let more : totals * 1 ≤ totals * (long - 1) = mul-le-mul_left totals (omega (arith, two)) in
      subst (λ k. ticked before k ≤ after) (sym (cond-true (nat_lt 1 long) _ _ t)) (omega (arith, is, more))
  | inr f ↦ subst (λ k. ticked before k ≤ after) (sym (cond-false (nat_lt 1 long) _ _ f)) (omega (arith, is))
]

-- an array with a box has items
some_items : (a : ArrayValue) (p : PatchValue) → FitsPatch a p → 0 < size a.shape
some_items a p lies = omega (arith, some_place p.region a.shape lies.inside, box_within_size p.region a.shape lies.inside)

-- if trees would serve lines without sums, the lines are short, or there are none
none_kept : (fold : Reduce) (a : ArrayValue) (d : Delta) (held : Outcome) → FitsNow d (Ok a) → AreSumsKept fold (Ok a) d None → has_trees_for fold a d held ≡ true
    → operation_cost (total_rule fold) (Ok (a ∷ [])) (d ∷ []) held * (length_along fold.along a.shape - 1) ≤ new_items d * binary_digits (length_along fold.along a.shape - 1)
none_kept fold a (Patch p) held fit well has =
    let one = and_parts _ _ has in
    let long = length_along fold.along a.shape in
    let two = and_parts (is_of_numbers a.item_type) (is_ok held || nat_lt most_without_tree long) one.1 in
    let none : keeps_sums fold a ≡ false = sym (well.changed p a refl refl) in
    let some : nat_lt 0 (size a.shape) ≡ true = lt-ltb 0 (size a.shape) (some_items a p fit) in
    let numbers = two.0 in
    let short : long ≤ 3 = elim (cases_Bool (nat_lt most_without_tree long)) [
      | inl t ↦ absurd (false≢true (sym none ∙ and_from _ _ well.folded (and_from _ _ numbers (and_from _ _ some t))))
      | inr f ↦ let few : long ≤ 3 = ltb-false most_without_tree long f in few
    ] in
    let digits : long - 1 ≤ binary_digits (long - 1) = few_within_digits (long - 1) (omega (arith, short)) in
    let ok : is_ok held ≡ true = or_left (is_ok held) (nat_lt most_without_tree long) (le-ltb most_without_tree long short) two.1 in
    mul-le-mul (patch_within fold a p held fit one.0 ok) digits
none_kept fold a (Grown t) held fit well has =
    let one = and_parts _ _ has in
    let three = and_parts (is_of_numbers a.item_type) (nat_lt most_without_tree (length_along fold.along a.shape - 1)) one.1 in
    let long = length_along fold.along a.shape in
    let before : most_without_tree < long - 1 = ltb-true most_without_tree (long - 1) three.1 in
    let was = well.grew t a refl refl in
    let b = was.before in
    let rank : length a.shape ≡ length b.shape = ap (λ (x : ArrayValue). length x.shape) was.becomes ∙ rank_longer b.shape in
    let first : axis_at (length a.shape) fold.along ≡ 0 = eqb-true _ _ one.0 in
    let on : is_axis (length b.shape) fold.along ≡ true = ap (λ n. is_axis n fold.along) (sym rank) ∙ has_axis_along fold.along a.shape (omega (arith, before)) in
    let more = one_more_place fold.along a b t first was.fit.some_axis was.becomes on in
    let numbers : is_of_numbers b.item_type ≡ true = ap (λ (x : ArrayValue). is_of_numbers x.item_type) (sym was.becomes) ∙ three.0 in
    let enough : nat_lt most_without_tree (length_along fold.along b.shape) ≡ true = lt-ltb most_without_tree (length_along fold.along b.shape) (omega (arith, more, before)) in
    let none : size b.shape ≤ 0 = elim (cases_Bool (nat_lt 0 (size b.shape))) [
      | inl some ↦ absurd (false≢true (was.keeps ∙ and_from _ _ well.folded (and_from _ _ numbers (and_from _ _ some enough))))
      | inr f ↦ ltb-false 0 (size b.shape) f
    ] in
    let here : axis_at (length b.shape) fold.along ≡ 0 = ap (λ n. axis_at n fold.along) (sym rank) ∙ first in
    let long_before = along_axis fold.along b.shape on ∙ ap (λ k. line_length k b.shape) here in
    let each : 1 * line_step 0 b.shape ≤ line_length 0 b.shape * line_step 0 b.shape = mul-le-mul_right (line_step 0 b.shape) (omega (arith, long_before, more, before)) in
    let no_lines : line_step 0 b.shape ≡ 0 = omega (arith, each, between b.shape was.fit.some_axis, none) in
    let totals = operation_cost (total_rule fold) (Ok (a ∷ [])) (Grown t ∷ []) held in
    let few : totals ≤ 0 = omega (arith, grown_within fold a t held fit one.0, was.fit.one_place, no_lines) in
    let product : totals * (long - 1) ≤ 0 * (long - 1) = mul-le-mul_right (long - 1) few in
    omega (arith, product)
none_kept fold a Same held fit well has = absurd (false≢true has)
none_kept fold a (Whole r) held fit well has = absurd (false≢true has)

module _ (fold : Reduce) (a : ArrayValue) (delta : Bor Delta) (held : Outcome) (before after : ℕ) (r : Result (Delta × ℕ) AllocError) (fit : FitsNow delta.now (Ok a)) where
  abbrev d : Delta
  d = delta.now

  abbrev axis : ℕ
  axis = axis_at (length a.shape) fold.along

  abbrev long : ℕ
  long = length_along fold.along a.shape

  abbrev totals : ℕ
  totals = operation_cost (total_rule fold) (Ok (a ∷ [])) (d ∷ []) held

  abbrev has : Bool
  has = has_trees_for fold a d held

  -- with the kept sums
  module _ (sums : SummedValue) (summed : IsSummedFor fold (Ok a) d (Some sums)) where
    narrow : has ≡ true → is_narrow axis d ≡ true
    narrow h = (and_parts (is_narrow axis d) _ h).0

    otherwise : has ≡ false → is_narrow axis d ≡ false
    otherwise h = not_first (is_narrow axis d) _ (λ n. (kept_serve fold a d held sums summed n).0) h

    pub totalled_by_trees : HasJoins fold (a, delta) held before after → IfOk r (λ s. is_error s.0 ≡ false → HasAllJoins fold (a, delta) held before after) → AreTotalsJoined fold (Good a delta) held before after r
    totalled_by_trees joins all = record {
      most = elim (cases_Bool has) [
        | inl t ↦
            subst (λ k. after ≤ before + k) (sym (cond-true has _ _ t)) (joins.trees (narrow t) (binary_digits (long - 1)) (within_digits (long - 1)))
        | inr f ↦ subst (λ k. after ≤ before + k) (sym (cond-false has _ _ f)) (joins.folds (otherwise f))
      ];
      least = IfOk-weaker r _ _
          (λ s least sound. elim (cases_Bool has) [
            | inl t ↦
                let two = (kept_serve fold a d held sums summed (narrow t)).1 in
                let some = (least sound).trees (narrow t) two in
                let is : least_joins_of fold (Ok a) d held totals ≡ min totals (new_items d) = cond-true has _ _ t ∙ cond-true _ _ _ (lt-ltb 1 long two) in
                subst (λ k. ticked before k ≤ after) (sym is) (omega (arith, some))
            | inr f ↦
                let is : least_joins_of fold (Ok a) d held totals ≡ totals * (long - 1) = cond-false has _ _ f in
                subst (λ k. ticked before k ≤ after) (sym is) (omega (arith, (least sound).folds (otherwise f)))
          ])
          all;
    }

  -- lines without trees are folded
  module _ (well : AreSumsKept fold (Ok a) d None) where
    pub totalled_by_folds : AreFoldsWithin totals long before after → IfOk r (λ s. s.1 ≡ totals) → IfOk r (λ s. is_error s.0 ≡ false → AreFolds s.1 long before after) → AreTotalsJoined fold (Good a delta) held before after r
    totalled_by_folds folds cost all = record {
      most = elim (cases_Bool has) [
        | inl t ↦
            let within : totals * (long - 1) ≤ new_items d * binary_digits (long - 1) = none_kept fold a d held fit well t in
            subst (λ k. after ≤ before + k) (sym (cond-true has _ _ t)) (omega (arith, folds, within))
        | inr f ↦ subst (λ k. after ≤ before + k) (sym (cond-false has _ _ f)) folds
      ];
      least = both_ok r (λ s. s.1 ≡ totals) (λ s. is_error s.0 ≡ false → AreFolds s.1 long before after) (λ s. is_error s.0 ≡ false → ticked before (least_joins_of fold (Ok a) d held totals) ≤ after)
          (λ s costs counted sound. elim (cases_Bool has) [
            | inl t ↦
                let is : least_joins_of fold (Ok a) d held totals ≡ (if nat_lt 1 long then min totals (new_items d) else 0) = cond-true has _ _ t in
                subst (λ k. ticked before k ≤ after) (sym is) (at_least before after totals (new_items d) long (counted sound ∙ ap (λ k. ticked before (k * (long - 1))) costs))
            | inr f ↦
                let is : least_joins_of fold (Ok a) d held totals ≡ totals * (long - 1) = cond-false has _ _ f in
                subst (λ k. ticked before k ≤ after) (sym is) (omega (arith, counted sound, ap (λ k. ticked before (k * (long - 1))) costs))
          ])
          cost all;
    }
