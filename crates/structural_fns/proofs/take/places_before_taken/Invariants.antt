use Rattle.std.proofs.Common.{◌≡◌, ℕ, ◌<◌, ◌≤◌, ◌-◌, length, get_or, pos, unsigned_abs}
use Rattle.{index_region.specs.Arguments.{numbers}, structural_fns.specs.Take.{taken_place}}
use Rattle.structural_fns.proofs.take.places_before_taken.Given as goal

abbrev pub invariant-loop-k : goal.invariant-loop-k
invariant-loop-k l = record {
  inline : l.before.capacity ≡ 4;
  long : length l.before.items ≡ l.k;
  there : (j : ℕ) → j < l.k → unsigned_abs (get_or (numbers l.fn.counts) j (pos 0)) ≤ get_or l.axes j 0;
  each : (j : ℕ) → j < l.k → get_or l.before.items j 0 ≡ taken_place (get_or l.axes j 0) (get_or (numbers l.fn.counts) j (pos 0)) 1 - 1;
}
