use Rattle.std.{proofs.Common.{◌≡◌, ◌++◌, ◌-◌, ◌+◌, length, map}, specs.List.{range_with_len}}
use Rattle.structural_fns.specs.DyadicTranspose.{axes_to, lengths_at, least_of, transposed_shape}
use Rattle.structural_fns.proofs.dyadic_transpose.transposed_shape.Given as goal

abbrev pub invariant-loop-axis : goal.invariant-loop-axis
invariant-loop-axis l = record {
  made : l.shape.items ++ map (λ j. least_of (lengths_at (axes_to l.fn.axes) l.lengths j)) (range_with_len (l.axis + 1) (l.rank - l.axis))
      ≡ transposed_shape (axes_to l.fn.axes) l.lengths;
  long : length l.shape.items ≡ l.axis;
  inline : l.shape.capacity ≡ 4;
}
