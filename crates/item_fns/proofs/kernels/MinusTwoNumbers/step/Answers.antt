use Rattle.std.{proofs.Common.{w64}, proofs.lemmas.Int.{to_z-of_z}}
use Rattle.item_fns.proofs.Doubts.{none_left, none_right, half_difference}
use Rattle.item_fns.proofs.kernels.MinusTwoNumbers.step.Goals as goal

pub returns : goal.returns
returns c = λ h.
    let a = rw (to_z-of_z w64 c.args.a c.ranges.a) at c.beyond.ensures (none_left _ _ h) in
    let b = rw (to_z-of_z w64 c.args.b c.ranges.b) at c.beyond-2.ensures (none_right _ _ h) in
    half_difference c.args.a c.args.b a b c.ranges.a c.ranges.b
