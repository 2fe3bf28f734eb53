use Rattle.std.{proofs.Common.{◌≡◌, ◌∙◌, ◌<◌, ◌≤◌, ◌++◌, [], ◌∷◌, ◌+◌, ◌-◌, ◌*◌, ◌/◌, ◌%◌, ap, sym, subst, get_or, drop, take, length, pos, arith, Ok}, proofs.lemmas.List.{get_or-drop}, proofs.Math.Nat.{mul-le-mul_right}}
use Rattle.item_fns.{specs.Folds.{strided, folded}, proofs.RightFolds.{strided_last}, proofs.Doubts.{none_left, none_right}}
use Rattle.reduce_fns.proofs.ColumnFolds.{rows_more}
use Rattle.reduce_fns.proofs.columns.fold_rows.Goals as goal

pub loop-block-init : goal.loop-block-init
loop-block-init g c =
    let s = length c.args.folds.now in
    let n = c.args.count in
    let last : n - 1 ≡ (n - 1) % 4 + 4 * ((n - 1) / 4) = omega arith in
    record {
      long = omega arith;
      folded = λ h column below.
          ap (λ k. folded (g.S.TwoNumbers.gives c.args.step.now) (drop k (strided (pos 0) c.args.rows.now column s n))) (sym last)
          ∙ strided_last (pos 0) c.args.rows.now (g.S.TwoNumbers.gives c.args.step.now) column s n c.requires.some
          ∙ ap (λ p. Ok (get_or c.args.rows.now p (pos 0))) (omega arith)
          ∙ ap Ok (sym (get_or-drop ((n - 1) * s) c.args.rows.now column (pos 0)) ∙ ap (λ xs. get_or xs column (pos 0)) (sym c.requires.last));
      below = omega (arith, c.requires.some);
    }

pub slice_bounds-put_four-end : goal.slice_bounds-put_four-end
slice_bounds-put_four-end g c =
    let k = (c.args.count - 1) % 4 + 4 * (c.loop-block.block - 1) in
    let within : (k + 4) * length c.args.folds.now ≤ c.args.count * length c.args.folds.now = mul-le-mul_right (length c.args.folds.now) (omega (arith, c.loop-block.invariant.below)) in
    omega (arith, within, c.requires.whole)

pub loop-block-preserved : goal.loop-block-preserved
loop-block-preserved g c =
    let f = g.S.TwoNumbers.gives c.args.step.now in
    let rows = c.args.rows.now in
    let s = length c.args.folds.now in
    let n = c.args.count in
    let k = (n - 1) % 4 + 4 * (c.loop-block.block - 1) in
    record {
      long = c.put_four-doubt.ensures.long ∙ c.loop-block.invariant.long;
      folded = λ h column below.
          let y = get_or c.loop-block.folds column (pos 0) in
          let later = subst (λ j. folded f (drop j (strided (pos 0) rows column s n)) ≡ Ok y) (omega arith) (c.loop-block.invariant.folded (none_left _ _ h) column below) in
          rows_more f rows s n column k 4 (k * s + 4 * s - k * s) y below (omega arith) (omega (arith, c.loop-block.invariant.below)) later
          ∙ ap (λ m. folded f (strided (pos 0) (take (k * s + 4 * s - k * s) (drop (k * s) rows)) column m 4 ++ y ∷ [])) (sym c.loop-block.invariant.long)
          ∙ (c.put_four-doubt.ensures.is (none_right _ _ h)).each column (omega arith);
      below = omega (arith, c.loop-block.invariant.below);
    }

pub loop-before-preserved : goal.loop-before-preserved
loop-before-preserved g c =
    let f = g.S.TwoNumbers.gives c.args.step.now in
    let rows = c.args.rows.now in
    let s = length c.args.folds.now in
    let n = c.args.count in
    let k = c.loop-before.before - 1 in
    let high : k + 1 < n = omega (arith, c.loop-before.invariant.below) in
    let size : k * s + s - k * s ≡ 1 * s = omega arith in
    record {
      long = c.put_over-doubt.ensures.long ∙ c.loop-before.invariant.long;
      folded = λ h column below.
          let y = get_or c.loop-before.folds column (pos 0) in
          let place : column + 0 * s ≡ column = omega arith in
          let later = subst (λ j. folded f (drop j (strided (pos 0) rows column s n)) ≡ Ok y) (omega arith) (c.loop-before.invariant.folded (none_left _ _ h) column below) in
          rows_more f rows s n column k 1 (k * s + s - k * s) y below size high later
          ∙ ap (λ p. f (get_or (take (k * s + s - k * s) (drop (k * s) rows)) p (pos 0)) y) place
          ∙ (c.put_over-doubt.ensures.is (none_right _ _ h)).each column (omega arith);
      below = omega (arith, c.loop-before.invariant.below);
    }
