use Rattle.std.{proofs.Common.{◌≡◌, ◌∙◌, ap, to_z, of_z, w64, SFits}, specs.Int.{int_shr}, proofs.lemmas.Int.{to_z-of_z}}
use Rattle.item_fns.proofs.Doubts.{short_half}
use Rattle.item_fns.proofs.kernels.lower_half.Goals as goal

pub returns : goal.returns
returns c = λ h.
    let number = c.args.number in
    let same : to_z w64 (of_z w64 number) ≡ number = to_z-of_z w64 number c.ranges.number in
    let fits : SFits w64 c.wrapping_shl.result = record { sfits = c.wrapping_shl.type_inv } in
    let shifted = rw same at c.wrapping_shl.ensures in
    let back = ap (λ z. int_shr z 32) (to_z-of_z w64 c.wrapping_shl.result fits ∙ shifted) ∙ short_half number c.ranges.number h in
    ap (λ z. to_z w64 (of_z w64 z)) back ∙ same
