use Rattle.std.{proofs.Common.{◌≡◌, ◌∙◌, ap, sym, to_z, of_z, Ok, w64, rules}, proofs.lemmas.Int.{to_z-of_z}}
use Rattle.item_fns.proofs.Doubts.{magnitude_is}
use Rattle.item_fns.proofs.kernels.MagnitudeOneNumber.step.Goals as goal

pub returns : goal.returns
returns c = λ h.
    let b = c.args.b in
    let opposite = c.step-opposite.result.0 in
    let same : to_z w64 (of_z w64 b) ≡ b = to_z-of_z w64 b c.ranges.b in
    let same_opposite : to_z w64 (of_z w64 opposite) ≡ opposite = to_z-of_z w64 opposite (search rules) in
    let max = rw (same, same_opposite) at c.max.ensures.value in
    magnitude_is b opposite c.ranges.b (rw same at c.step-opposite.ensures h) ∙ ap Ok (sym (to_z-of_z w64 c.max.result (search rules) ∙ max))
