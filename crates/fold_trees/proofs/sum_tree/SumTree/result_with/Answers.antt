use Rattle.{std.{proofs.Common.{w64}, proofs.lemmas.Int.{to_z-of_z}}, fold_trees.proofs.OneLine.{numbers_of_one_with}}
use Rattle.fold_trees.proofs.sum_tree.SumTree.result_with.Goals as goal

pub returns-clause-result : goal.returns-clause-result
returns-clause-result c =
    let inside = rw (← c.self.view_is) at c.requires in
    rw (← c.self.view_is) (rw (numbers_of_one_with c.self.inside.trees c.self.invariant c.args.place _ inside, to_z-of_z w64 c.args.number c.ranges.number) at c.result_with.ensures.result)
