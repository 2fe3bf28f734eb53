use Rattle.{std.proofs.Common.{rules, refl}, index_region.proofs.Boxes.{removed}}
use Rattle.index_region.proofs.intervals.Intervals.without_axis.Goals as goal

pub returns : goal.returns
returns c =
    let e = removed c.args.axis _ c.args.self refl in
    search rules
