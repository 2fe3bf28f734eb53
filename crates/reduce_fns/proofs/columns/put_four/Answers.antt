use Rattle.std.{proofs.Common.{◌≡◌, ◌∙◌, ◌≢◌, ap, sym, get_or, length, pos, arith, Ok, to_z, of_z, w64, SFits, rules, below_more, get_or-set_same, get_or-set_other, ◌+◌, ◌*◌, ℕ}, proofs.Math.ListN.{length-set}, proofs.lemmas.Int.{to_z-of_z}}
use Rattle.item_fns.proofs.Doubts.{none_left, none_right}
use Rattle.reduce_fns.proofs.columns.put_four.Goals as goal

pub loop-column-preserved : goal.loop-column-preserved
loop-column-preserved g c =
    let k = c.loop-column.column in
    let s = length c.args.folds.now in
    let folds = c.loop-column.folds in
    let rows = c.args.rows.now in
    let z = c.four_steps-fold.result.0 in
    let entry : (p row : ℕ) → SFits w64 (get_or rows p (pos 0)) → p ≡ k + row * s → to_z w64 (of_z w64 (get_or rows p (pos 0))) ≡ get_or rows (k + row * s) (pos 0) =
    λ p row fits is. to_z-of_z w64 _ fits ∙ ap (λ q. get_or rows q (pos 0)) is in
    let lower_is : to_z w64 (of_z w64 (get_or folds k (pos 0))) ≡ get_or c.args.folds.now k (pos 0) = to_z-of_z w64 _ (search rules) ∙ c.loop-column.invariant.left k (omega arith) in
    let gave = rw (entry k 0 (search rules) (omega arith), entry (s + k) 1 (search rules) (omega arith), entry (2 * s + k) 2 (search rules) (omega arith), entry (3 * s + k) 3 (search rules) (omega arith), lower_is) at c.four_steps-fold.ensures in
    rw (to_z-of_z w64 z (search rules))
    (record {
      long = length-set folds k z ∙ c.loop-column.invariant.long;
      made = λ h. below_more _ _
          (λ j below. let other : j ≢ k = omega arith in c.loop-column.invariant.made (none_left _ _ h) j below ∙ ap Ok (sym (get_or-set_other folds k j z (pos 0) other)))
          (gave (none_right _ _ h) ∙ ap Ok (sym (get_or-set_same folds k z (pos 0) (omega arith))));
      left = λ j above. let other : j ≢ k = omega arith in get_or-set_other folds k j z (pos 0) other ∙ c.loop-column.invariant.left j (omega arith);
    })
