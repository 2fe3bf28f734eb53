use Rattle.operator_fns.proofs.ProductSums.{sums_are_folds}
use Rattle.operator_fns.proofs.row_folds.push_folds.Goals as goal

pub returns-then-branch : goal.returns-then-branch
returns-then-branch c =
    let done = c.if-branch.true in
    let made = c.in_ok-push_sums.ensures in
    sums_are_folds c.args.fold c.args.each c.args.row.now c.args.rows.now c.args.columns c.args.made.now.items _ (rw c.in-Some.is at c.requires.fold) (rw c.in-Some.is at c.requires.each) c.requires.some c.requires.whole
    (made.small done) (made.sums done)
