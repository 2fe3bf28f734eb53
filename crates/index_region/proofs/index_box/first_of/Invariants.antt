use Rattle.std.proofs.Common.{◌≡◌, take, map}
use Rattle.index_region.proofs.index_box.first_of.Given as goal

abbrev pub invariant-loop-first : goal.invariant-loop-first
invariant-loop-first l = l.index ≡ map (λ s. s.0) (take l.first-index l.intervals)
