use Rattle.{std.proofs.Common.{◌<◌, ◌/◌, get_or, pos, ℕ}, reduce_fns.specs.Sum.{IsWithinBound}}
use Rattle.reduce_fns.proofs.bounds.are_within.Given as goal

abbrev pub invariant-loop-number : goal.invariant-loop-number
invariant-loop-number l = l.bits / 2 < l.bound → (k : ℕ) → k < l.number-index → IsWithinBound l.bound (get_or l.numbers k (pos 0))
