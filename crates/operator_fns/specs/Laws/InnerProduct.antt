-- The law of inner product.
use Rattle.std.proofs.Common.{false, refl}
use Rattle.function_names.specs.declared.scalar.Scalar2.{Scalar2}
use Rattle.change_core.{specs.Tightness.{IsTight}, proofs.Sourced.{two_arrays_tight}}
use Rattle.operator_fns.{specs.InnerProduct.{inner_form, inner_item, column_use, inner_rule, row_use}, specs.Laws.InnerProductReads.{column_covered, inner_same, row_covered}}

pub inner_tight : (f g : Scalar2) → IsTight (inner_rule f g)
inner_tight f g = two_arrays_tight false inner_form (inner_item f g) row_use column_use (record {
  blind = λ c d xs ys p q. rw (p.count, q) refl;
  settled = λ c d xs ys form index sound_c sound_d p q e place read_left read_right. inner_same f g c d xs ys form index sound_c sound_d p.count q e place read_left read_right;
  covered_left = row_covered;
  covered_right = column_covered;
})
