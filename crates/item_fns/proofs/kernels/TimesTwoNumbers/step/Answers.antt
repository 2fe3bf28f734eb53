use Rattle.std.{proofs.Common.{◌∙◌, sym, Ok, w64}, specs.Int.{int_wrapping_mul}, proofs.lemmas.Int.{to_z-of_z}}
use Rattle.item_fns.proofs.Doubts.{none_left, none_right, short_product}
use Rattle.item_fns.proofs.kernels.TimesTwoNumbers.step.Goals as goal

pub returns : goal.returns
returns c = λ h.
    let same_a = to_z-of_z w64 c.args.a c.ranges.a in
    let same_b = to_z-of_z w64 c.args.b c.ranges.b in
    let a = rw same_a at c.beyond.ensures (none_left _ _ h) in
    let b = rw same_b at c.beyond-2.ensures (none_right _ _ h) in
    let x = rw same_a at c.lower_half.ensures a in
    let y = rw same_b at c.lower_half-2.ensures b in
    short_product c.args.a c.args.b a b c.ranges.a c.ranges.b ∙ (λ i. Ok (int_wrapping_mul w64 (sym x i) (sym y i)))
