use Rattle.std.proofs.Common.{◌≡◌, ℕ, ◌<◌, ◌≤◌, length, get_or, pos, ◌+ℤ◌, ◌*ℤ◌}
use Rattle.operator_fns.proofs.small_products.add_row.Given as goal

abbrev pub invariant-loop-column : goal.invariant-loop-column
invariant-loop-column g l = record {
  long : length l.sums ≡ length l.initial.sums;
  made : (k : ℕ) → k < l.column → get_or l.sums k (pos 0) ≡ get_or l.initial.sums k (pos 0) +ℤ l.factor *ℤ get_or l.row k (pos 0);
  left : (k : ℕ) → l.column ≤ k → get_or l.sums k (pos 0) ≡ get_or l.initial.sums k (pos 0);
}
