use Rattle.{std.proofs.Common.{◌≡◌, ◌++◌, drop, length}, index_region.specs.Arguments.{numbers}, change_core.specs.Ways.{images}}
use Rattle.structural_fns.specs.Take.{taken_axes}
use Rattle.structural_fns.proofs.take.taken_box.Given as goal

abbrev pub invariant-loop-k : goal.invariant-loop-k
invariant-loop-k l = record {
  long : length l.moved ≡ l.k;
  done : l.moved ++ images (taken_axes (drop l.k l.axes) (drop l.k (numbers l.fn.counts))) (drop l.k l.intervals) ≡ images (taken_axes l.axes (numbers l.fn.counts)) l.intervals;
}
