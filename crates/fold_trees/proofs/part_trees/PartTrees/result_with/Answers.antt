use Rattle.std.{proofs.Common.{◌∙◌, ◌/◌, ◌<◌, ℤ, List, length, ap, subst, arith, w64}, proofs.lemmas.Int.{to_z-of_z}}
use Rattle.fold_trees.{specs.ArrayLines.{TreesValue, numbers_through, with_number}, proofs.LinePlaces.{line_within}, specs.FoldTrees.{IsReductionBy}, proofs.TreeFolds.{reduction_with}, proofs.part_trees.PartTrees.result_with.Given.{Over}, proofs.part_trees.PartTrees.result_with.Goals.{After-self}}
use Rattle.fold_trees.specs.LineBlocks.{line_at}
use Rattle.fold_trees.proofs.part_trees.PartTrees.result_with.Goals as goal

is_inside : (g : Over) (c : After-self g) → c.args.place < length c.self.inside.numbers.items
is_inside g c = omega (arith, c.requires, ap (λ (t : TreesValue). length t.numbers) c.self.view_is)

pub nth_tree-tree-requires-clause-line : goal.nth_tree-tree-requires-clause-line
nth_tree-tree-requires-clause-line g c =
    let inside = is_inside g (goal.at.nth_tree-tree-requires-clause-line g c).After-self in
    let line = line_within c.self.inside.count c.self.inside.step (length c.self.inside.numbers.items) c.self.invariant.trees.lines c.args.place inside in
    omega (arith, c.line_through-line.ensures, line, ap (λ (l : List ℤ). length l / c.self.inside.count) c.deref.ensures.value)

pub returns-clause-result : goal.returns-clause-result
returns-clause-result g c =
    let t : TreesValue = record { count = c.self.inside.count; step = c.self.inside.step; numbers = c.self.inside.numbers.items } in
    let lines = c.self.invariant.trees.lines in
    subst (λ (t : TreesValue). IsReductionBy g.P.Part.function (numbers_through (with_number t c.args.place c.args.number) c.args.place) c.fold.result) c.self.view_is
    (reduction_with g.P.Part.tells g.P.Part.function t c.args.place c.args.number c.nth_tree-tree.result.line c.nth_tree-tree.result.numbers.now c.with-all.result.0 c.fold.result lines
    (is_inside g (goal.at.returns-clause-result g c).After-self) (omega (arith, lines.some, c.if-self-eq1.false))
    (c.nth_tree-tree.ensures.line ∙ ap (line_at c.self.inside.count c.self.inside.step) c.line_through-line.ensures) (c.nth_tree-tree.ensures.numbers ∙ c.deref.ensures.value)
    (to_z-of_z w64 c.args.number c.ranges.number) c.with-all.ensures.is c.fold.ensures)
