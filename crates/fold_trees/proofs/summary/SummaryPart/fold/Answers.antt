use Rattle.{std.proofs.Common.{◌∙◌}, fold_trees.{specs.Sums.{sums_of}, proofs.SumEndings.{some_folded}}}
use Rattle.fold_trees.proofs.summary.SummaryPart.fold.Goals as goal

pub returns : goal.returns
returns c xs h more = c.sum.ensures (sums_of xs) h.tells ∙ some_folded xs more h.numbers
