use Rattle.{std.proofs.Common.{rules, arith}, arrays_core.proofs.Shapes.{as_long}, index_region.proofs.OnAxes.{on_axis}}
use Rattle.structural_fns.proofs.reverse.reversed.Goals as goal

pub shape_of-at-requires : goal.shape_of-at-requires
shape_of-at-requires c = let long = as_long c.args.axes.now c.args.index.now c.requires.in_range in omega (arith, c.requires.rank)

pub overflow_sub-axes : goal.overflow_sub-axes
overflow_sub-axes c =
    omega (arith, (on_axis c.args.axes.now c.args.index.now c.axis_at-axis.result c.requires.in_range (c.axis_at-axis.ensures.below (search rules))).high)
