use Rattle.std.proofs.Common.{◌≤ℤ◌, ◌<◌, get_or, pos, ℕ}
use Rattle.operator_fns.proofs.unions.are_truths.Given as goal

abbrev pub invariant-loop-number : goal.invariant-loop-number
invariant-loop-number l = record {
  low : (k : ℕ) → k < l.number-index → l.least ≤ℤ get_or l.numbers k (pos 0);
  high : (k : ℕ) → k < l.number-index → get_or l.numbers k (pos 0) ≤ℤ l.greatest;
}
