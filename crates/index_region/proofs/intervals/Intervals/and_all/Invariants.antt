use Rattle.std.proofs.Common.{◌≡◌, ◌++◌, take}
use Rattle.index_region.proofs.intervals.Intervals.and_all.Given as goal

abbrev pub invariant-loop-first : goal.invariant-loop-first
invariant-loop-first l = l.all ≡ l.fn.self ++ take l.first-index l.list
