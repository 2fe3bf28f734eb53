use Rattle.{std.proofs.Common.{sym, subst, ap, ◌∙◌}, fold_trees.specs.FoldTrees.{FoldsValue}}
use Rattle.sum_rules.{specs.LineSums.{StandFor}, proofs.ToldTotals.{told_anew}}
use Rattle.sum_rules.proofs.summed.read_totals_with_cost.Goals as goal

pub change_whole-requires : goal.change_whole-requires
change_whole-requires c = λ shape type form.
    let lines = subst (λ (t : FoldsValue). StandFor t.lines c.args.sums.now.axis c.args.sums.now.array) (sym c.alone-trees.ensures) c.trees.ensures.lines in
    told_anew c.args.fold c.args.array.now _ _ c.requires lines shape type form _ (ap (λ (t : FoldsValue). t.function) c.alone-trees.ensures ∙ c.trees.ensures.function)
