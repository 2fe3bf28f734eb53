use Rattle.{std.proofs.Common.{◌≡◌, take, length}, index_region.specs.Boxes.{meet_of}}
use Rattle.index_region.proofs.intervals.meet_of.Given as goal

abbrev pub invariant-loop-axis : goal.invariant-loop-axis
invariant-loop-axis l = record { long : length l.intervals ≡ l.axis; done : l.intervals ≡ meet_of (take l.axis l.ours) (take l.axis l.theirs) }
