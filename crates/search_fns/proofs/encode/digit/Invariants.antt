use Rattle.{std.proofs.Common.{◌≡◌, ◌≤◌, drop, Ok}, index_region.specs.Arguments.{numbers}, search_fns.specs.Encode.{carried_through}}
use Rattle.search_fns.proofs.encode.digit.Given as goal

abbrev pub invariant-loop-before : goal.invariant-loop-before
invariant-loop-before l = record { carried : carried_through (drop l.before (numbers l.radices)) l.number ≡ Ok l.rest; above : l.place ≤ l.before }
