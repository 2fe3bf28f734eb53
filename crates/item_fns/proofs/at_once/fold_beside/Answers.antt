use Rattle.std.{proofs.Common.{◌≡◌, ◌∙◌, ◌+◌, ◌<◌, ℕ, ℤ, List, ap, sym, subst, get_or, drop, length, pos, to_z, of_z, arith, w64, SFits, rules, below_more}, specs.List.{fold}, proofs.lemmas.Int.{to_z-of_z}, proofs.lemmas.List.{drop_more}}
use Rattle.item_fns.proofs.Doubts.{below_left, below_right}
use Rattle.item_fns.proofs.at_once.fold_beside.Goals as goal

onward : (plain : ℤ → ℤ → ℤ) (xs : List ℤ) (place : ℕ) (a b total : ℤ) → place < length xs → SFits w64 b → b ≡ plain a (get_or xs place (pos 0)) → fold plain a (drop place xs) ≡ total → fold plain (to_z w64 (of_z w64 b)) (drop (place + 1) xs) ≡ total
onward plain xs place a b total there fits is before =
    ap (λ z. fold plain z (drop (place + 1) xs)) (to_z-of_z w64 b fits ∙ is) ∙ ap (fold plain a) (sym (drop_more xs place (pos 0) there)) ∙ before

pub loop-place-init : goal.loop-place-init
loop-place-init g c =
    let plain = g.S.AtOnce.plain c.args.step.now in
    let near = g.S.AtOnce.near c.args.step.now 1 in
    let xs = c.args.first.now in
    let ys = c.args.second.now in
    let x = to_z-of_z w64 (get_or xs 0 (pos 0)) (search rules) in
    let y = to_z-of_z w64 (get_or ys 0 (pos 0)) (search rules) in
    record {
      left = ap (λ a. fold plain a (drop 1 xs)) x;
      right = ap (λ a. fold plain a (drop 1 ys)) y;
      near = λ h k below.
          let first : k ≡ 0 = omega arith in (
            subst (λ j. near (get_or xs j (pos 0))) (sym first) (rw x at c.word.ensures (below_left _ _ _ h)),
            subst (λ j. near (get_or ys j (pos 0))) (sym first) (rw y at c.word-2.ensures (below_right _ _ _ h)),
          );
      low = omega arith;
    }

pub loop-place-preserved : goal.loop-place-preserved
loop-place-preserved g c =
    let plain = g.S.AtOnce.plain c.args.step.now in
    let near = g.S.AtOnce.near c.args.step.now 1 in
    let xs = c.args.first.now in
    let ys = c.args.second.now in
    let place = c.loop-place.place in
    let before = c.loop-place.invariant in
    let x = to_z-of_z w64 (get_or xs place (pos 0)) (search rules) in
    let y = to_z-of_z w64 (get_or ys place (pos 0)) (search rules) in
    record {
      left = onward plain xs place c.loop-place.left c.plain-left.result _ c.loop-place-test.true (search rules) (rw (c.loop-place.left-is, x) at c.plain-left.ensures) (rw c.loop-place.left-is at before.left);
      right = onward plain ys place c.loop-place.right c.plain-right.result _ (omega (arith, c.loop-place-test.true, c.requires.long)) (search rules) (rw (c.loop-place.right-is, y) at c.plain-right.ensures) (rw c.loop-place.right-is at before.right);
      near = λ h.
          let words = below_right _ _ _ h in
          below_more _ _ (before.near (below_left _ _ _ h)) (rw x at c.word-in-loop-place.ensures (below_left _ _ _ words), rw y at c.word-in-loop-place-2.ensures (below_right _ _ _ words));
      low = omega arith;
    }
