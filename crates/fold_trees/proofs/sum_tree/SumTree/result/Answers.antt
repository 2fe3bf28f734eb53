use Rattle.{std.proofs.Common.{◌∙◌, ◌<◌, ℤ, List, length, rules, sym, subst}, function_names.specs.declared.scalar.Scalar2.TheVariants.{Plus}}
use Rattle.fold_trees.{specs.FoldTrees.{IsReductionBy}, proofs.OneLine.{numbers_of_one}}
use Rattle.fold_trees.proofs.sum_tree.SumTree.result.Goals as goal

pub returns : goal.returns
returns c =
    let held = subst (λ (xs : List ℤ). 0 < length xs) (sym c.self.view_is) (search rules) in
    subst (λ (xs : List ℤ). IsReductionBy Plus xs c.result.result) (numbers_of_one c.self.inside.trees c.self.invariant held ∙ c.self.view_is) c.result.ensures
