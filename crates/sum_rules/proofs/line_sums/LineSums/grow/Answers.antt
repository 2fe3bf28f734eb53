use Rattle.{std.proofs.Common.{◌≡◌, ◌∙◌, ap, sym}, arrays_core.{specs.Arrays.{ArrayValue}, specs.Growth.{one_longer}}, fold_trees.specs.FoldTrees.{FoldsValue}}
use Rattle.sum_rules.{specs.declared.line_sums.Lines.{Lines}, specs.LineSums.{SummedValue, array_of_shape, grown_sums}, specs.NewLines.{NewLinesValue, new_numbers}, proofs.Grown.{array_grown, fits_trees, function_stays, held, numbers_grown, stands}}
use Rattle.sum_rules.proofs.line_sums.LineSums.grow.Goals as goal

pub take_growth-requires : goal.take_growth-requires
take_growth-requires c =
    let told = rw (← c.self.view_is, ← c.lines.view_is) at c.requires in
    rw c.deref_mut-kept.ensures.value (fits_trees _ _ _ _ _ c.self.invariant (rw told.axis at c.lines.invariant) (rw told.axis at told))

pub invariant_of-self : goal.invariant_of-self
invariant_of-self c =
    let told = rw (← c.self.view_is, ← c.lines.view_is) at c.requires in
    let grown = stands _ _ _ _ _ c.self.invariant (rw told.axis at c.lines.invariant) (rw told.axis at told) in
    rw (c.take_growth.ensures, numbers_grown c.deref_mut-kept.result.now.trees c.lines.inside.growth, c.deref_mut-kept.ensures.value) grown

pub returns : goal.returns
returns c =
    let kept = c.deref_mut-kept.result.now in
    let axis = kept.axis in
    let old = kept.shape.items in
    let t = kept.trees in
    let view_is : held axis old t ≡ c.args.self.now = ap (λ (l : Lines). held l.axis l.shape.items l.trees) c.deref_mut-kept.ensures.value ∙ c.self.view_is in
    let shaped : c.lines.inside.shape.items ≡ one_longer old =
    ap (λ (l : NewLinesValue). l.tail.shape) c.lines.view_is ∙ c.requires.tail.shaped ∙ ap (λ (s : SummedValue). one_longer s.array.shape) (sym view_is) in
    let numbers = ap (λ (u : FoldsValue). u.lines.numbers) c.take_growth.ensures ∙ numbers_grown t c.lines.inside.growth in
    let function = ap (λ (u : FoldsValue). u.function) c.take_growth.ensures ∙ function_stays t c.lines.inside.growth in
    let made = λ (a : ArrayValue). let s : SummedValue = record { function = t.function; axis = axis; array = a } in s in
    (λ i. let s : SummedValue = record { function = function i; axis = axis; array = array_of_shape c.lines.inside.shape.items (numbers i) } in s)
    ∙ ap made (array_grown old c.lines.inside.shape.items t.lines.numbers (new_numbers c.lines.inside.growth) shaped)
    ∙ (λ i. grown_sums (view_is i) (c.lines.view_is i).tail.items)
