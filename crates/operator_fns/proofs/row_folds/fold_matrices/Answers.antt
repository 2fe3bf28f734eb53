use Rattle.std.{proofs.Common.{◌≡◌, ◌∙◌, ◌+◌, ◌-◌, ◌*◌, ◌/◌, subst, sym, drop, take, length, arith}, specs.Prelude.{IfSome}, proofs.lemmas.List.{length-take, length-drop}}
use Rattle.item_fns.specs.Numbers.{dyadic_on_numbers}
use Rattle.operator_fns.{specs.SmallProducts.{BoundsFactors}, proofs.ProductSums.{row_high}, proofs.PlainGrids.{row_more}}
use Rattle.operator_fns.proofs.row_folds.fold_matrices.Goals as goal

pub push_folds-requires-clause-bound : goal.push_folds-requires-clause-bound
push_folds-requires-clause-bound c =
    let xs = c.args.left.now in
    let r = c.loop-place.place in
    let n = c.args.grid.count in
    let row = take (r * n + n - r * n) (drop (r * n) xs) in
    let high = row_high r n (c.args.places / c.args.grid.columns) c.loop-place-test.true in
    let long : length row ≡ n = length-take (r * n + n - r * n) (drop (r * n) xs) ∙ omega (arith, length-drop (r * n) xs, c.requires.rows) in
    subst (λ k. IfSome c.of-bound.result (λ b. BoundsFactors k (take (n * c.args.grid.columns) c.args.right.now) b.most b.are_short)) (sym long) c.of-bound.ensures.bound

pub loop-place-preserved : goal.loop-place-preserved
loop-place-preserved c =
    row_more (dyadic_on_numbers c.args.fold) (dyadic_on_numbers c.args.each) c.args.left.now c.args.right.now c.args.grid c.args.places c.requires.fits c.requires.plain c.loop-place.place
    c.loop-place.made.items _ c.loop-place-test.true c.loop-place.invariant c.in_ok-push_folds.ensures
