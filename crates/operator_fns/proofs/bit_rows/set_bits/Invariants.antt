use Rattle.std.proofs.Common.{◌≡◌, ◌<◌, ◌≤◌, ℕ, length, get_or, pos}
use Rattle.operator_fns.specs.Unions.{bit_of}
use Rattle.operator_fns.proofs.bit_rows.set_bits.Given as goal

abbrev pub invariant-loop-column : goal.invariant-loop-column
invariant-loop-column l = record {
  long : length l.words ≡ length l.initial.words;
  held : (k : ℕ) → k < l.column → bit_of l.words k ≡ get_or l.row k (pos 0);
  none : (k : ℕ) → l.column ≤ k → bit_of l.words k ≡ pos 0;
}
