use Rattle.{std.{proofs.Common.{arith}, proofs.lemmas.Int.{ints, clamps}}, fold_trees.proofs.JoinedSums.{sums_eq}}
use Rattle.fold_trees.proofs.summary.Summary.join_near.Goals as goal

pub returns : goal.returns
returns c =
    let below = c.saturating_sub.ensures in
    let above = c.max-above.ensures in
    sums_eq _ _ (omega (arith, ints, below, c.requires.sound.least_total)) (omega (arith, ints, clamps, below)) (omega (arith, ints, clamps, c.saturating_sub-2.ensures, above))
