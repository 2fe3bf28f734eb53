use Rattle.{std.proofs.Common.{◌∙◌, sym, ap}, index_region.specs.declared.delta.Delta.TheVariants.{Whole}, fold_trees.specs.FoldTrees.{has_trees}}
use Rattle.sum_rules.proofs.ToldTotals.{error_parts, told_changed, told_error}
use Rattle.sum_rules.proofs.summed.change_beside.Goals as goal

pub change_whole-requires : goal.change_whole-requires
change_whole-requires g c = λ shape type form.
    told_changed c.args.fold _ _ _ c.requires.lines c.requires.one shape type form c.args.lines c.requires.changed _ c.item_type-one_item_a_place.ensures.sound
    (sym c.in-Patch.is ∙ c.in_ok-made.ensures.delta) _ c.requires.function

pub returns-clause-delta : goal.returns-clause-delta
returns-clause-delta g c =
    let failed = error_parts c.args.lines _ c.patch_of-made.new.change c.in_default.not-Patch c.in_ok-made.ensures.delta in
    let trees = sym (ap has_trees (c.folds_by-has_trees.ensures.is ∙ c.requires.function)) ∙ c.folds_by-has_trees.ensures.one in
    failed.1.1
    ∙ ap Whole (sym (told_error c.args.fold _ _ _ c.requires.lines c.requires.one c.requires.formed.0 c.requires.formed.1 c.requires.formed.2 c.args.lines c.requires.changed failed.0 trees
    c.shape-an_array.ensures.sound failed.1.0))
