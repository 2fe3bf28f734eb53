use Rattle.std.{proofs.Common.{◌≡◌, ◌<◌, ◌≤◌, ℕ, length, get_or}, specs.Int.RustNames.{bit_or}}
use Rattle.operator_fns.proofs.bit_rows.join_words.Given as goal

abbrev pub invariant-loop-word : goal.invariant-loop-word
invariant-loop-word l = record {
  long : length l.union ≡ length l.initial.union;
  joined : (k : ℕ) → k < l.word → get_or l.union k 0 ≡ bit_or (get_or l.initial.union k 0) (get_or l.row k 0);
  left : (k : ℕ) → l.word ≤ k → get_or l.union k 0 ≡ get_or l.initial.union k 0;
}
