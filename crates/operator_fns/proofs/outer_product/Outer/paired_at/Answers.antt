use Rattle.{std.proofs.Common.{ap, length, arith, ◌++◌}, arrays_core.specs.declared.item.ItemType.TheVariants.{Nums}}
use Rattle.{index_region.proofs.Passing.{place_inside}, operator_fns.{specs.Laws.JoinedIndices.{parts}, proofs.Joined.{long_enough}}}
use Rattle.operator_fns.proofs.outer_product.Outer.paired_at.Goals as goal

pub split_at-requires : goal.split_at-requires
split_at-requires c =
    let a = c.args.left.now.shape in
    let b = c.args.right.now.shape in
    omega (arith, long_enough a b c.args.index.now (place_inside (a ++ b) Nums c.args.index.now c.requires), c.len.ensures.value, ap length c.shape.ensures.is)

pub position-requires-clause-in_range : goal.position-requires-clause-in_range
position-requires-clause-in_range c =
    let b = c.args.right.now.shape in
    let p = parts c.args.left.now.shape b c.args.index.now (place_inside (c.args.left.now.shape ++ b) Nums c.args.index.now c.requires) in
    rw (c.shape-2.ensures.is, c.split_at.ensures.front, c.len.ensures.value, c.shape.ensures.is) p.front

pub position-requires-2-clause-in_range : goal.position-requires-2-clause-in_range
position-requires-2-clause-in_range c =
    let b = c.args.right.now.shape in
    let p = parts c.args.left.now.shape b c.args.index.now (place_inside (c.args.left.now.shape ++ b) Nums c.args.index.now c.requires) in
    rw (c.shape-3.ensures.is, c.split_at.ensures.back, c.len.ensures.value, c.shape.ensures.is) p.back
