use Rattle.{std.proofs.Common.{◌≡◌, ◌++◌, drop, length}, index_region.specs.Arguments.{numbers}, change_core.specs.Ways.{images}}
use Rattle.structural_fns.specs.Drop.{kept_axes}
use Rattle.structural_fns.proofs.drop_places.kept_box.Given as goal

abbrev pub invariant-loop-k : goal.invariant-loop-k
invariant-loop-k l = record {
  long : length l.moved ≡ l.k;
  done : l.moved ++ images (kept_axes (drop l.k l.axes) (drop l.k (numbers l.fn.counts))) (drop l.k l.intervals) ≡ images (kept_axes l.axes (numbers l.fn.counts)) l.intervals;
}
