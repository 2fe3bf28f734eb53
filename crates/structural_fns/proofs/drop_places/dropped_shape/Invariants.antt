use Rattle.{std.proofs.Common.{◌≡◌, ◌++◌, drop, length}, index_region.specs.Arguments.{numbers}, structural_fns.specs.Drop.{dropped_shape}}
use Rattle.structural_fns.proofs.drop_places.dropped_shape.Given as goal

abbrev pub invariant-loop-k : goal.invariant-loop-k
invariant-loop-k l = record {
  made : l.shape.items ++ dropped_shape (drop l.k l.axes) (drop l.k (numbers l.fn.counts)) ≡ dropped_shape l.axes (numbers l.fn.counts);
  long : length l.shape.items ≡ l.k;
  inline : l.shape.capacity ≡ 4;
}
