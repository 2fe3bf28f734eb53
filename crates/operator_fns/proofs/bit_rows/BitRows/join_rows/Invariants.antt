use Rattle.{std.proofs.Common.{◌≡◌, ℕ, ◌+◌, ◌*◌, ◌<◌, ◌≤◌, get_or, length, pos}, function_names.specs.declared.scalar.Scalar2.TheVariants.{And}}
use Rattle.{item_fns.specs.Numbers.{dyadic_on_numbers}, operator_fns.{specs.Unions.{bit_of}, proofs.TruthUnions.{UnionTo}}}
use Rattle.operator_fns.proofs.bit_rows.BitRows.join_rows.Given as goal

abbrev pub invariant-loop-place : goal.invariant-loop-place
invariant-loop-place l = record {
  long : length l.union ≡ l.self.width;
  joined : (column : ℕ) → column < l.self.columns
      → UnionTo (λ k. dyadic_on_numbers And (get_or l.chosen k (pos 0)) (get_or l.self.rows.now (column + k * l.self.columns) (pos 0))) (length l.chosen) l.place (bit_of l.union column);
  below : l.place ≤ length l.chosen;
}
