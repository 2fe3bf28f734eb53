use Rattle.{std.{proofs.Common.{◌∙◌, ◌<◌, ℤ, List, length, rules, sym, subst, w64}, proofs.lemmas.Int.{to_z-of_z}}, fold_trees.proofs.OneLine.{numbers_of_one}}
use Rattle.fold_trees.proofs.sum_tree.SumTree.result_behind.Goals as goal

pub returns : goal.returns
returns c =
    let held = subst (λ (xs : List ℤ). 0 < length xs) (sym c.self.view_is) (search rules) in
    rw (to_z-of_z w64 c.args.number c.ranges.number, numbers_of_one c.self.inside.trees c.self.invariant held ∙ c.self.view_is) at c.result_behind.ensures
