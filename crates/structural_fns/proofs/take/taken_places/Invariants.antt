use Rattle.{std.proofs.Common.{◌≡◌, ◌++◌, drop, length}, index_region.specs.Arguments.{numbers}, structural_fns.specs.Take.{taken_places}}
use Rattle.structural_fns.proofs.take.taken_places.Given as goal

abbrev pub invariant-loop-k : goal.invariant-loop-k
invariant-loop-k l = record {
  made : l.places.items ++ taken_places (drop l.k l.axes) (drop l.k (numbers l.fn.counts)) (drop l.k l.index) ≡ taken_places l.axes (numbers l.fn.counts) l.index;
  long : length l.places.items ≡ l.k;
  inline : l.places.capacity ≡ 4;
}
