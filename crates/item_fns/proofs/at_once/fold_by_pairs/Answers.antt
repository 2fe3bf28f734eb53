use Rattle.std.{proofs.Common.{◌≡◌, ◌∙◌, ◌+◌, ◌*◌, ◌/◌, ◌<◌, ◌-ℤ◌, to_z, of_z, bit_or, ap, sym, subst, get_or, pos, length, drop, arith, Ok, inl, inr, ℕ, ◌∷◌, below_more, w64, rules}, proofs.lemmas.Bool.{cases_lt}, proofs.lemmas.Int.{ints, to_z-of_z}, proofs.lemmas.List.{drop_more, get_or_default}}
use Rattle.item_fns.{specs.AtOnce.{IsSum, in_turn}, proofs.Differences.{difference, last_alone}, proofs.Doubts.{below_left, below_right}}
use Rattle.item_fns.proofs.at_once.fold_by_pairs.Goals as goal

pub loop-pair-init : goal.loop-pair-init
loop-pair-init c =
    let same = to_z-of_z w64 c.odd_end-end.result (search rules) in
    rw same (record {
      whole = λ h. omega (arith, ints);
      total_near = λ h. rw same at c.above_least-doubt.ensures h;
      end_near = λ h. rw same at c.above_least-doubt.ensures h;
      near = λ h k below. absurd (omega arith);
    })

pub loop-pair-preserved : goal.loop-pair-preserved
loop-pair-preserved c =
    let xs = c.args.numbers.now in
    let total = c.loop-pair.total in
    let end = to_z w64 (of_z w64 c.odd_end-end.result) in
    let p = 2 * c.loop-pair.pair in
    let a = get_or xs p (pos 0) in
    let b = get_or xs (p + 1) (pos 0) in
    let same_a : to_z w64 (of_z w64 a) ≡ a = to_z-of_z w64 a (search rules) in
    let same_b : to_z w64 (of_z w64 b) ≡ b = to_z-of_z w64 b (search rules) in
    let there : p + 1 < length xs = omega (arith, c.loop-pair-test.true) in
    let next : 2 * (c.loop-pair.pair + 1) ≡ p + 1 + 1 = omega arith in
    let wrapped = rw (c.loop-pair.total-is, same_a, same_b) at c.with_difference-total.ensures in
    let near_a = rw same_a at c.above_least.ensures in
    let near_b = rw same_b at c.above_least-in-loop-pair.ensures in
    let near = rw c.loop-pair.total-is at c.loop-pair.invariant.total_near in
    let whole = rw c.loop-pair.total-is at c.loop-pair.invariant.whole in
    let d = c.loop-pair.doubt in
    let m = c.above_least.result in
    let n = c.above_least-in-loop-pair.result in
    let rest : in_turn (drop p xs) ≡ a -ℤ (b -ℤ in_turn (drop (2 * (c.loop-pair.pair + 1)) xs)) =
    ap in_turn (drop_more xs p (pos 0) (omega arith) ∙ ap (λ ys. a ∷ ys) (drop_more xs (p + 1) (pos 0) there) ∙ ap (λ k. a ∷ b ∷ drop k xs) (omega arith)) in
    rw (to_z-of_z w64 c.with_difference-total.result (search rules))
    (record {
      whole = λ h.
          let old = below_left d (bit_or m n) _ h in
          let new = below_right d (bit_or m n) _ h in
          let made = wrapped (p + 1) (omega arith) (near old) (near_a (below_left m n _ new)) (near_b (below_right m n _ new)) in
          omega (arith, ints, made, rest, whole old);
      total_near = λ h.
          let old = below_left d (bit_or m n) _ h in
          let new = below_right d (bit_or m n) _ h in
          let i = near_a (below_left m n _ new) in
          let j = near_b (below_right m n _ new) in
          let k = near old in
          let made = wrapped (p + 1) (omega arith) k i j in
          record { low = omega (arith, ints, made, k.low, i.low, j.high); high = omega (arith, ints, made, k.high, i.high, j.low) };
      end_near = λ h. c.loop-pair.invariant.end_near (below_left d (bit_or m n) _ h);
      near = λ h k below.
          let new = below_right d (bit_or m n) _ h in
          subst (λ j. (i : ℕ) → i < j → IsSum 1 (get_or xs i (pos 0))) (sym next)
          (below_more _ _ (below_more _ _ (c.loop-pair.invariant.near (below_left d (bit_or m n) _ h)) (near_a (below_left m n _ new))) (near_b (below_right m n _ new))) k below;
    })

pub returns-then-doubt : goal.returns-then-doubt
returns-then-doubt c =
    let xs = c.args.numbers.now in
    let sure = c.if-doubt.true in
    let half : c.loop-pair.pair ≡ length xs / 2 = omega (arith, c.loop-pair-test.false, c.loop-pair.auto.pair-end) in
    let end = to_z-of_z w64 c.odd_end-end.result (search rules) ∙ c.odd_end-end.ensures in
    let left : in_turn (drop (2 * c.loop-pair.pair) xs) ≡ in_turn (drop (2 * (length xs / 2)) xs) = ap (λ k. in_turn (drop (2 * k) xs)) half in
    difference xs c.requires c.if-numbers.false
    (λ k d below. subst (IsSum 1) (get_or_default xs k (pos 0) d below)
    (elim (cases_lt k (2 * c.loop-pair.pair)) [
      | inl h ↦ c.loop-pair.invariant.near sure k h
      | inr h ↦
          let last : k + 1 ≡ length xs = omega arith in
          let here : k ≡ 2 * (length xs / 2) = omega arith in
          subst (IsSum 1) (end ∙ ap (λ j. in_turn (drop j xs)) (sym here) ∙ last_alone xs k last) (c.loop-pair.invariant.end_near sure)
    ]))
    ∙ ap Ok (omega (arith, ints, c.loop-pair.invariant.whole sure, left, end))
