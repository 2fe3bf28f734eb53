use Rattle.std.{proofs.Common.{◌∙◌, ◌+◌, ◌/◌, ◌<◌, ◌++◌, ◌∷◌, [], ℤ, List, length, ap, subst, arith, w64}, proofs.lemmas.Int.{to_z-of_z}, proofs.lemmas.List.{length-append}}
use Rattle.fold_trees.{specs.ArrayLines.{TreesValue, line_count, numbers_of_line}, specs.LineTrees.{slot_of, segment}, specs.FoldTrees.{IsReductionBy}, proofs.TreeFolds.{reduction_of}, proofs.Segments.{listed_segment, long_segment}, specs.LineBlocks.{line_at}}
use Rattle.fold_trees.proofs.part_trees.PartTrees.result_behind.Goals as goal

pub nth_tree-tree-requires-clause-line : goal.nth_tree-tree-requires-clause-line
nth_tree-tree-requires-clause-line g c =
    omega (arith, c.requires, ap (λ (t : TreesValue). line_count t) c.self.view_is, ap (λ (l : List ℤ). length l / c.self.inside.count) c.deref.ensures.value)

pub fold-requires : goal.fold-requires
fold-requires g c = (_, c.join.ensures _ _ c.whole.ensures c.of.ensures)

pub returns : goal.returns
returns g c =
    let count = c.self.inside.count in
    let z = c.args.number in
    let x = slot_of (line_at count c.self.inside.step c.args.line) c.self.inside.numbers.items in
    let before = rw (c.nth_tree-tree.ensures.line, c.nth_tree-tree.ensures.numbers ∙ c.deref.ensures.value) at c.whole.ensures in
    let new = rw (to_z-of_z w64 z c.ranges.number) at c.of.ensures in
    let xs = segment x 0 count ++ z ∷ [] in
    let two : 1 < length xs = omega (arith, length-append (segment x 0 count) (z ∷ []) ∙ ap (λ n. n + 1) (long_segment x 0 count), c.self.invariant.trees.lines.some) in
    let reduced = reduction_of g.P.Part.function xs c.fold.result (omega (arith, two)) (c.fold.ensures xs (c.join.ensures (segment x 0 count) (z ∷ []) before new) two) in
    subst (λ (t : TreesValue). IsReductionBy g.P.Part.function (numbers_of_line t c.args.line ++ z ∷ []) c.fold.result) c.self.view_is
    (subst (λ (l : List ℤ). IsReductionBy g.P.Part.function (l ++ z ∷ []) c.fold.result) (listed_segment x 0 count) reduced)
