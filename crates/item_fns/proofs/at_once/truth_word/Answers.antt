use Rattle.std.{proofs.Common.{◌∙◌, ap, of_z, w64, arith}, proofs.lemmas.Int.{to_z-of_z}}
use Rattle.item_fns.proofs.Doubts.{truth_of_bits}
use Rattle.item_fns.proofs.at_once.truth_word.Goals as goal

pub returns : goal.returns
returns c = λ h.
    let same = c.cast_unsigned.ensures ∙ ap (of_z w64) (to_z-of_z w64 c.args.number c.ranges.number) in
    truth_of_bits c.args.number c.ranges.number (omega (arith, same, h))
