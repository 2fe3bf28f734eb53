use Rattle.{std.proofs.Common.{◌≡◌, ◌*◌, ◌+◌, drop, true}, arrays_core.specs.Shapes.{size as size_of, places_before, is_index_of}}
use Rattle.structural_fns.proofs.index_source.place_of.Given as goal

abbrev pub invariant-loop-k : goal.invariant-loop-k
invariant-loop-k g l = record {
  place : l.before * size_of (drop l.k l.axes) + places_before (drop l.k l.axes) (drop l.k (g.S.IndexSource.list l.source)) ≡ places_before l.axes (g.S.IndexSource.list l.source);
  inside : is_index_of (drop l.k l.axes) (drop l.k (g.S.IndexSource.list l.source)) ≡ true;
}
