use Rattle.{std.proofs.Common.{◌≡◌, length, ◌++◌, drop}, index_region.specs.Boxes.{cover_between}}
use Rattle.index_region.proofs.index_box.covered.Given as goal

abbrev pub invariant-loop-axis : goal.invariant-loop-axis
invariant-loop-axis l = record {
  long : length l.intervals ≡ l.axis;
  done : l.intervals ++ cover_between (drop l.axis l.axes) (drop l.axis l.from) (drop l.axis l.to) ≡ cover_between l.axes l.from l.to;
}
