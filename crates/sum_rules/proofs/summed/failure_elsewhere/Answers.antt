use Rattle.{std.proofs.Common.{◌∙◌, ◌<◌, ap, sym, arith}, arrays_core.specs.Shapes.{index_after, size}, fold_trees.specs.FoldTrees.{has_trees}}
use Rattle.{index_region.specs.Boxes.{is_within}, sum_rules.proofs.ToldTotals.{places_are, told_failure}}
use Rattle.sum_rules.proofs.summed.failure_elsewhere.Goals as goal

pub total-requires : goal.total-requires
total-requires g c =
    let places = places_are c.args.fold _ _ _ c.requires.lines c.requires.one c.args.shape.now.items c.requires.formed.0 c.requires.formed.1 c.args.lines.now c.requires.changed in
    omega (arith, places, c.if-line-size.false, c.size.ensures, ap size c.as_slice.ensures)

pub returns : goal.returns
returns g c =
    let shape = c.args.shape.now.items in
    let line = c.failing_line-line.result in
    let below : line < size shape = omega (arith, c.if-line-size.false, c.size.ensures, ap size c.as_slice.ensures) in
    let index_is = c.as_slice-2.ensures ∙ c.index_of_position-index.ensures.is ∙ ap (index_after shape) (omega arith) in
    let away = ap (is_within c.args.lines.now) (sym index_is) ∙ sym c.contains.ensures ∙ c.if-contains.false in
    let trees = sym (ap has_trees c.folds_by-has_trees.ensures.is) ∙ c.folds_by-has_trees.ensures.one in
    told_failure c.args.fold _ _ _ c.requires.lines c.requires.one shape c.requires.formed.0 c.requires.formed.1 c.args.lines.now c.requires.changed _ c.requires.function trees
    c.shape-an_array.ensures.sound line below away c.total.result c.in-Err.kind c.total.ensures c.in-Err.is
