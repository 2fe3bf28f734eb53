use Rattle.std.{proofs.Common.{◌≡◌, ◌∙◌, ap, arith, pos, neg_ℤ, ◌-ℤ◌, w64}, proofs.lemmas.Int.{ints, to_z-of_z}}
use Rattle.item_fns.specs.Numbers.{number_or_limit}
use Rattle.item_fns.proofs.kernels.NegativeOneNumber.step.Goals as goal

pub returns : goal.returns
returns c = λ h.
    let b = c.args.b in
    let same : neg_ℤ b ≡ pos 0 -ℤ b = omega (arith, ints) in
    ap number_or_limit same ∙ (rw (to_z-of_z w64 b c.ranges.b) at c.step.ensures h)
