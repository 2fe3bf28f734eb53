use Rattle.std.proofs.Common.{◌≡◌, ◌*◌, ℤ, List, length, take}
use Rattle.{function_names.specs.declared.scalar.Scalar2.TheVariants.{And, Or}, item_fns.specs.Numbers.{dyadic_on_numbers}}
use Rattle.operator_fns.{specs.RowByColumn.{IsGridOf}, proofs.PlainGrids.{AreMade}}
use Rattle.operator_fns.proofs.bit_rows.BitRows.join_matrices.Given as goal

abbrev pub invariant-loop-place : goal.invariant-loop-place
invariant-loop-place l = record {
  long : length l.made.items ≡ l.place * l.grid.columns;
  made : (right : List ℤ) → l.self.rows.now ≡ take (l.grid.count * l.grid.columns) right → IsGridOf l.grid l.places (length l.left) (length right)
      → AreMade (dyadic_on_numbers Or) (dyadic_on_numbers And) l.left right l.grid l.place l.made.items;
}
