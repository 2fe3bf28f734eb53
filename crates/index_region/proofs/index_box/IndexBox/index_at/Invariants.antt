use Rattle.{std.proofs.Common.{◌≡◌, ◌<◌, ◌++◌, ◌^◌, drop, length}, index_region.specs.Boxes.{walk_at, box_size}}
use Rattle.index_region.proofs.index_box.IndexBox.index_at.Given as goal

abbrev pub invariant-loop-axis : goal.invariant-loop-axis
invariant-loop-axis l = record {
  long : length l.index ≡ l.axis;
  below : l.left < box_size (drop l.axis l.intervals);
  size : box_size (drop l.axis l.intervals) < 2 ^ 64;
  walk : l.index ++ walk_at (drop l.axis l.intervals) l.left ≡ walk_at l.intervals l.before;
}
