use Rattle.{std.proofs.Common.{◌∙◌, ap}, sum_rules.{specs.declared.line_sums.Lines.{Lines}, specs.LineSums.{SummedValue, array_of_shape, patched_sums}}}
use Rattle.sum_rules.proofs.line_sums.LineSums.write.Goals as goal

pub returns : goal.returns
returns c =
    (λ i. let s : SummedValue = record { function = c.write_into.ensures.function i; axis = c.deref_mut-kept.result.now.axis; array = c.write_into.ensures.numbers i } in s)
    ∙ ap (λ (l : Lines). let s : SummedValue = record { function = l.trees.function; axis = l.axis; array = array_of_shape l.shape.items l.trees.lines.numbers } in patched_sums s c.args.patch.now) c.deref_mut-kept.ensures.value
    ∙ ap (λ (s : SummedValue). patched_sums s c.args.patch.now) c.self.view_is
