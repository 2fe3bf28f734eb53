use Rattle.std.proofs.Common.{◌≡◌, ◌<◌, ℕ, length, get_or, pos}
use Rattle.operator_fns.specs.Unions.{bit_of}
use Rattle.operator_fns.proofs.bit_rows.spread.Given as goal

abbrev pub invariant-loop-column : goal.invariant-loop-column
invariant-loop-column l = record {
  long : length l.numbers ≡ length l.initial.numbers;
  bits : (k : ℕ) → k < l.column → get_or l.numbers k (pos 0) ≡ bit_of l.union k;
}
