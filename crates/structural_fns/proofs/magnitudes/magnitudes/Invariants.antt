use Rattle.{std.proofs.Common.{◌≡◌, ◌++◌, drop, length, map, unsigned_abs}, index_region.specs.Arguments.{numbers}, structural_fns.specs.Reshape.{magnitudes}}
use Rattle.structural_fns.proofs.magnitudes.magnitudes.Given as goal

abbrev pub invariant-loop-place : goal.invariant-loop-place
invariant-loop-place l = record {
  made : l.axes.items ++ map unsigned_abs (drop l.place (numbers l.fn.counts)) ≡ magnitudes l.fn.counts;
  long : length l.axes.items ≡ l.place;
  inline : l.axes.capacity ≡ 4;
}
