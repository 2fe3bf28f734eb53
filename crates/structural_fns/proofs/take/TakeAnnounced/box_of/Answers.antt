use Rattle.{std.proofs.Common.{arith}, index_region.proofs.Passing.{two_arguments}}
use Rattle.structural_fns.{specs.Laws.CountedAxes.{counted_fits}, proofs.Calls.{fit_of_right}}
use Rattle.structural_fns.proofs.take.TakeAnnounced.box_of.Goals as goal

pub taken_box-requires-clause-fit : goal.taken_box-requires-clause-fit
taken_box-requires-clause-fit c =
    let a = c.index-args-0.result in
    let b = c.index-args-1.result in
    let two = two_arguments c.args.args.now a b c.requires.count c.index-args-0.is c.index-args-1.is in
    let fit = fit_of_right c.args.args.now a b c.args.which c.args.region.now two c.requires.below (omega arith) c.requires.fit in
    rw (c.as_slice-2.ensures.is, c.counted_box-intervals.ensures, c.as_slice.ensures, c.counted_shape-axes.ensures.is) (counted_fits a b c.args.region.now fit)
