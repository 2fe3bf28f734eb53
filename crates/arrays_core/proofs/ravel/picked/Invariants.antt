use Rattle.std.proofs.Common.{◌≡◌, map, take, get_or}
use Rattle.arrays_core.proofs.ravel.picked.Given as goal

abbrev pub invariant-loop-k : goal.invariant-loop-k
invariant-loop-k g l = l.picked.items ≡ map (λ k. get_or l.items k l.fill) (take l.k-index l.before)
