use Rattle.std.proofs.Common.{◌≡◌, ℕ, ◌<◌, min, length, get_or, pos}
use Rattle.{index_region.specs.Arguments.{numbers}, structural_fns.specs.Drop.{kept_place}}
use Rattle.structural_fns.proofs.drop_places.places_before_kept.Given as goal

abbrev pub invariant-loop-k : goal.invariant-loop-k
invariant-loop-k l = record {
  inline : l.before.capacity ≡ 4;
  long : length l.before.items ≡ l.k;
  each : (j : ℕ) → j < l.k → get_or l.before.items j 0 ≡ min (kept_place (get_or (numbers l.counts) j (pos 0)) 0) (get_or l.axes j 0);
}
