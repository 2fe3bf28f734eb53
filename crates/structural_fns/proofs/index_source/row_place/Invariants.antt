use Rattle.{std.proofs.Common.{◌≡◌, ◌*◌, ◌+◌, ◌++◌, ◌∷◌, [], drop, true}, arrays_core.specs.Shapes.{size as size_of, places_before, is_index_of}}
use Rattle.structural_fns.proofs.index_source.row_place.Given as goal

abbrev pub invariant-loop-k : goal.invariant-loop-k
invariant-loop-k l = record {
  place : l.before * size_of (drop l.k l.axes) + places_before (drop l.k l.axes) (drop l.k (l.row ++ 1 ∷ [])) ≡ places_before l.axes (l.row ++ 1 ∷ []);
  inside : is_index_of (drop l.k l.axes) (drop l.k (l.row ++ 1 ∷ [])) ≡ true;
}
