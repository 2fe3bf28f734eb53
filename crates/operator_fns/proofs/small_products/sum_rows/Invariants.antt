use Rattle.{std.proofs.Common.{◌≡◌, ℕ, ◌+◌, ◌*◌, ◌<◌, length, get_or, pos}, operator_fns.specs.SmallProducts.{sum_of_products}}
use Rattle.operator_fns.proofs.small_products.sum_rows.Given as goal

abbrev pub invariant-loop-place : goal.invariant-loop-place
invariant-loop-place g l = record {
  long : length l.sums ≡ l.columns;
  made : (column : ℕ) → column < l.columns
      → get_or l.sums column (pos 0) ≡ sum_of_products (λ k. get_or l.factors k (pos 0)) (λ k. get_or l.rows (column + k * l.columns) (pos 0)) l.place;
}
