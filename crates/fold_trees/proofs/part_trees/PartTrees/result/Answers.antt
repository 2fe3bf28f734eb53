use Rattle.std.proofs.Common.{◌∙◌, ◌<◌, ℤ, List, length, subst, arith}
use Rattle.fold_trees.{specs.ArrayLines.{TreesValue, numbers_of_line}, specs.LineTrees.{slot_of, segment}, specs.FoldTrees.{IsReductionBy}, proofs.TreeFolds.{reduction_of}, proofs.Segments.{listed_segment, long_segment}, specs.LineBlocks.{line_at}}
use Rattle.fold_trees.proofs.part_trees.PartTrees.result.Goals as goal

pub returns : goal.returns
returns g c =
    let x = slot_of (line_at c.self.inside.count c.self.inside.step c.args.line) c.self.inside.numbers.items in
    let told = rw (c.nth_tree-tree.ensures.line, c.nth_tree-tree.ensures.numbers ∙ c.deref.ensures.value) at c.whole.ensures in
    let two : 1 < length (segment x 0 c.self.inside.count) = omega (arith, long_segment x 0 c.self.inside.count, c.self.invariant.trees.lines.some, c.if-self-eq1.false) in
    let reduced = reduction_of g.P.Part.function (segment x 0 c.self.inside.count) c.fold.result (omega (arith, two)) (c.fold.ensures _ told two) in
    subst (λ (t : TreesValue). IsReductionBy g.P.Part.function (numbers_of_line t c.args.line) c.fold.result) c.self.view_is
    (subst (λ (l : List ℤ). IsReductionBy g.P.Part.function l c.fold.result) (listed_segment x 0 c.self.inside.count) reduced)
