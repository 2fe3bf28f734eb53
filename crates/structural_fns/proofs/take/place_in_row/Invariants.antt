use Rattle.{std.proofs.Common.{◌++◌, ◌∷◌, []}, index_region.specs.Arguments.{numbers}}
use Rattle.structural_fns.{specs.Take.{taken_places}, proofs.Offsets.{Walked}}
use Rattle.structural_fns.proofs.take.place_in_row.Given as goal

abbrev pub invariant-loop-k : goal.invariant-loop-k
invariant-loop-k l = Walked l.axes (taken_places l.axes (numbers l.fn.counts) (l.fn.row ++ l.fn.index ∷ [])) l.k l.before
