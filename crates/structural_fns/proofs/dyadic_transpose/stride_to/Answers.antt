use Rattle.std.{proofs.Common.{◌≡◌, ◌-◌, ◌+◌, ◌/◌, ◌≤◌, ◌∙◌, ap, sym, cond, nat_eq, get_or, arith}, proofs.Math.Nat.{div-le_self}}
use Rattle.structural_fns.{specs.DyadicTranspose.{axes_to}, proofs.Counting.{magnitudes_long}, proofs.SteppedRows.{stride_at, stride_chosen}}
use Rattle.structural_fns.proofs.dyadic_transpose.stride_to.Goals.{then-saturating_sub-axis, else-saturating_sub-axis}
use Rattle.structural_fns.proofs.dyadic_transpose.stride_to.Goals as goal

pub loop-k-preserved : goal.loop-k-preserved
loop-k-preserved c =
    let lengths = c.args.lengths.now in
    let axes = axes_to c.args.axes.now in
    let k = c.loop-k.k in
    let inv = c.loop-k.invariant in
    let test = c.loop-k-test.true in
    let many = magnitudes_long c.args.axes.now in
    let left = c.loop-k.places / c.max-places.result in
    let less : left ≤ c.loop-k.places = div-le_self c.loop-k.places c.max-places.result in
    let here : c.saturating_sub.result ≡ get_or axes k 0 - 1 = c.saturating_sub.ensures ∙ ap (λ j. j - 1) c.entry.ensures.is in
    let new : c.if-saturating_sub-axis.stride ≡ c.loop-k.stride + cond (nat_eq (get_or axes k 0 - 1) c.args.axis) left 0 =
    elim c.if-saturating_sub-axis.branch [
      | then-saturating_sub-axis w ↦ stride_chosen (get_or axes k 0 - 1) c.args.axis left c.loop-k.stride c.if-saturating_sub-axis.stride (λ e. w.stride-is) (λ e. absurd (e (sym here ∙ w.if-saturating_sub-axis.true)))
      | else-saturating_sub-axis w ↦ stride_chosen (get_or axes k 0 - 1) c.args.axis left c.loop-k.stride c.if-saturating_sub-axis.stride (λ e. absurd (w.if-saturating_sub-axis.false (here ∙ e))) (λ e. w.stride-is)
    ] in
    let more : c.if-saturating_sub-axis.stride ≤ c.loop-k.stride + left =
    elim c.if-saturating_sub-axis.branch [
      | then-saturating_sub-axis w ↦ omega (arith, w.stride-is)
      | else-saturating_sub-axis w ↦ omega (arith, w.stride-is)
    ] in
    record {
      few = omega (arith, inv.few);
      bound = omega (arith, inv.few, inv.bound);
      made = λ some. rw (new, c.max-places.ensures) (stride_at lengths axes k c.args.axis c.loop-k.places c.loop-k.stride _ (omega arith) (omega (arith, c.requires.as_many, many)) (inv.made some));
    }
