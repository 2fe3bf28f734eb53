use Rattle.{std.proofs.Common.{◌≡◌, take, length}, index_region.specs.Boxes.{hull_of}}
use Rattle.index_region.proofs.intervals.hull_of.Given as goal

abbrev pub invariant-loop-axis : goal.invariant-loop-axis
invariant-loop-axis l = record { long : length l.intervals ≡ l.axis; done : l.intervals ≡ hull_of (take l.axis l.ours) (take l.axis l.theirs) }
