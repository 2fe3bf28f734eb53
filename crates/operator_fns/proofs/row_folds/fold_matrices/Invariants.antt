use Rattle.item_fns.specs.Numbers.{dyadic_on_numbers}
use Rattle.operator_fns.proofs.PlainGrids.{AreMade}
use Rattle.operator_fns.proofs.row_folds.fold_matrices.Given as goal

abbrev pub invariant-loop-place : goal.invariant-loop-place
invariant-loop-place l = AreMade (dyadic_on_numbers l.fold) (dyadic_on_numbers l.each) l.left l.right l.grid l.place l.made.items
