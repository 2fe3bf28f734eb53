use Rattle.{std.proofs.Common.{◌≡◌, ◌∙◌, sym, ap, subst}, arrays_core.specs.Arrays.{IsArray}}
use Rattle.{index_region.{specs.Patches.{patched}, proofs.Patched.{patched_sound}}, fold_trees.specs.FoldTrees.{FoldsValue}}
use Rattle.sum_rules.specs.LineSums.{array_of_shape}
use Rattle.sum_rules.proofs.line_sums.write_joined.Goals as goal

pub returns-clause-sound : goal.returns-clause-sound
returns-clause-sound c =
    let p = c.args.patch.now.patch in
    let a = array_of_shape c.args.shape.now.items c.args.trees.now.lines.numbers in
    let same : array_of_shape c.args.shape.now.items c.set_joined.new.self.lines.numbers ≡ patched a p =
    ap (λ (t : FoldsValue). array_of_shape c.args.shape.now.items t.lines.numbers) c.set_joined.ensures ∙ (c.requires.joined c.if-not-patch.false).writes in
    subst IsArray (sym same) (patched_sound a p c.requires.lines c.item_type-one_item.ensures.sound c.requires.fit)
