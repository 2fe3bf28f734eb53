use Rattle.{std.proofs.Common.{◌≡◌, take, length}, index_region.specs.Boxes.{met}}
use Rattle.index_region.proofs.intervals.Intervals.met.Given as goal

abbrev pub invariant-loop-axis : goal.invariant-loop-axis
invariant-loop-axis l = record { long : length l.inside ≡ l.axis; done : l.inside ≡ met (take l.axis l.axes) l.intervals }
