use Rattle.std.proofs.Common.{◌≡◌, ◌∙◌, ◌-◌, ℕ, List, length, ap, sym, subst, arith}
use Rattle.function_names.{specs.Axes.{axis_at}, specs.declared.along.Along.TheVariants.{Last}}
use Rattle.sum_rules.{specs.LineSums.{length_along}, specs.Totals.{AreAllAsLong}, proofs.Lines.{some_in_line}, proofs.totals.refresh_sums.Goals.{in-Patch, in-Grown}}
use Rattle.sum_rules.proofs.totals.refresh_sums.Goals as goal

pub overflow_sub-count : goal.overflow_sub-count
overflow_sub-count c =
    let vector : length c.args.arg.0.shape ≡ 1 = omega (arith, c.len.ensures.value, ap (λ (s : List ℕ). length s) c.shape-lengths.ensures.is, c.if-len-eq1.true) in
    let long : c.length_along-long.result ≡ length_along Last c.args.arg.0.shape = c.length_along-long.ensures ∙ ap (length_along Last) (c.as_slice.ensures ∙ c.shape-lengths.ensures.is) in
    let both = c.requires.sums.grew c.in-Grown.field-0 c.in-Grown.is vector (omega (arith, long, c.if-long-gt1.true)) in
    omega (arith, long, some_in_line (axis_at (length both.1.before.shape) Last) both.1.before.shape both.1.lines.there both.1.lines.some, both.1.lines.counted)

pub invariant_of-trees : goal.invariant_of-trees
invariant_of-trees c =
    let long : c.length_along-long.result ≡ length_along Last c.args.arg.0.shape = c.length_along-long.ensures ∙ ap (length_along Last) (c.as_slice.ensures ∙ c.shape-lengths.ensures.is) in
    elim c.match-delta.branch [
      | in-Patch w ↦
          let both = c.requires.sums.changed w.in-Patch.field-0 w.in-Patch.is in
          let count : c.match-delta.count ≡ length_along Last c.args.arg.0.shape = w.count-is ∙ long in
          let some = some_in_line (axis_at (length both.1.before.shape) Last) both.1.before.shape both.1.lines.there both.1.lines.some in
          record { some = omega (arith, count, some, both.1.lines.counted); each = subst (λ k. AreAllAsLong k c.args.sums.now) (sym count) both.0 }
      | in-Grown w ↦
          let vector : length c.args.arg.0.shape ≡ 1 = omega (arith, w.len.ensures.value, ap (λ (s : List ℕ). length s) c.shape-lengths.ensures.is, w.if-len-eq1.true) in
          let both = c.requires.sums.grew w.in-Grown.field-0 w.in-Grown.is vector (omega (arith, long, w.if-long-gt1.true)) in
          let count : c.match-delta.count ≡ length_along Last c.args.arg.0.shape - 1 = w.count-is ∙ ap (λ k. k - 1) long in
          let some = some_in_line (axis_at (length both.1.before.shape) Last) both.1.before.shape both.1.lines.there both.1.lines.some in
          record { some = omega (arith, count, some, both.1.lines.counted); each = subst (λ k. AreAllAsLong k c.args.sums.now) (sym count) both.0 }
    ]
