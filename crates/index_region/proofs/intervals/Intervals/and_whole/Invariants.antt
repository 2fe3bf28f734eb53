use Rattle.{std.proofs.Common.{◌≡◌, ◌++◌, take}, index_region.specs.Boxes.{whole_of}}
use Rattle.index_region.proofs.intervals.Intervals.and_whole.Given as goal

abbrev pub invariant-loop-axis : goal.invariant-loop-axis
invariant-loop-axis l = l.all ≡ l.fn.self ++ whole_of (take l.axis-index l.axes)
