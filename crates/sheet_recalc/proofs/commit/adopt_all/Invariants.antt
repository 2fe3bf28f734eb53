use Rattle.{std.{proofs.Common.{◌≡◌}, specs.Map.{keys_of}}, sheet_recalc.{specs.Entries.{names_of}, proofs.Live.{AreTaken}}}
use Rattle.sheet_recalc.proofs.commit.adopt_all.Given as goal

abbrev pub invariant-loop-place : goal.invariant-loop-place
invariant-loop-place l = record {
  taken : AreTaken (names_of l.fn.entries.entries) l.entries.entries l.found.entries l.place;
  keys : keys_of l.found.entries ≡ keys_of l.fn.found.entries;
}

abbrev pub decreases-loop-place : goal.decreases-loop-place
decreases-loop-place l = l.place
