use Rattle.std.{proofs.Common.{◌≡◌, ◌∙◌, ◌≢◌, ap, sym, get_or, pos, arith, Ok, to_z, of_z, w64, SFits, rules, below_more, get_or-set_same, get_or-set_other}, proofs.Math.ListN.{length-set}, proofs.lemmas.Int.{to_z-of_z}}
use Rattle.item_fns.proofs.Doubts.{none_left, none_right}
use Rattle.reduce_fns.proofs.columns.put_each.Goals as goal

pub loop-column-preserved : goal.loop-column-preserved
loop-column-preserved g c =
    let f = g.S.TwoNumbers.gives c.args.step.now in
    let k = c.loop-column.column in
    let folds = c.loop-column.folds in
    let z = c.step-fold.result.0 in
    let fits : SFits w64 z = search rules in
    let upper = get_or c.args.row.now k (pos 0) in
    let upper_is : to_z w64 (of_z w64 upper) ≡ upper = to_z-of_z w64 _ (search rules) in
    let lower_is : to_z w64 (of_z w64 (get_or folds k (pos 0))) ≡ get_or folds k (pos 0) = to_z-of_z w64 _ (search rules) in
    let gave = rw (upper_is, lower_is) at c.step-fold.ensures in
    rw (to_z-of_z w64 _ fits)
    (record {
      long = length-set folds k z ∙ c.loop-column.invariant.long;
      made = λ h. below_more _ _
          (λ j below. let other : j ≢ k = omega arith in c.loop-column.invariant.made (none_left _ _ h) j below ∙ ap Ok (sym (get_or-set_other folds k j z (pos 0) other)))
          (ap (f upper) (sym (c.loop-column.invariant.left k (omega arith))) ∙ gave (none_right _ _ h) ∙ ap Ok (sym (get_or-set_same folds k z (pos 0) (omega arith))));
      left = λ j above. let other : j ≢ k = omega arith in get_or-set_other folds k j z (pos 0) other ∙ c.loop-column.invariant.left j (omega arith);
    })
