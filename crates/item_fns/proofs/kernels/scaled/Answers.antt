use Rattle.std.{proofs.Common.{◌≡◌, ◌∙◌, ◌%◌, ◌≤◌, ap, sym, arith, pos, unsigned_abs, to_z, of_z, Ok, w64, SFits, rules}, specs.Int.{int_wrapping_mul}, proofs.lemmas.Int.{ints, to_z-of_z, to_z_pos}}
use Rattle.item_fns.{specs.Numbers.{number_or_limit}, specs.AtOnce.{IsNear}, proofs.Doubts.{none_left, none_right, within_bound, short_product}}
use Rattle.item_fns.proofs.kernels.scaled.Goals as goal

pub returns : goal.returns
returns c = λ h.
    let number = c.args.number in
    let factor = c.args.factor in
    let same_number : to_z w64 (of_z w64 number) ≡ number = to_z-of_z w64 number c.ranges.number in
    let same_factor : to_z w64 (of_z w64 factor) ≡ factor = to_z-of_z w64 factor c.ranges.factor in
    let near_number : IsNear 1073741824 number = rw same_number at c.beyond.ensures (none_left _ _ h) in
    let near_factor : IsNear 1073741824 factor = rw same_factor at c.beyond-2.ensures (none_right _ _ h) in
    let signed = c.with_sign_of.result in
    let size = unsigned_abs factor in
    let fits : SFits w64 signed = search rules in
    let same_signed : to_z w64 (of_z w64 signed) ≡ signed = to_z-of_z w64 signed fits in
    let near_signed = (rw same_number at c.with_sign_of.ensures.near) near_number in
    let product = (rw (same_number, same_factor) at c.with_sign_of.ensures.is) near_number in
    let low : c.lower_half-signed.result ≡ signed = (rw same_signed at c.lower_half-signed.ensures) near_signed in
    let short : size ≤ 1073741824 = within_bound factor 1073741824 near_factor in
    let near_size : IsNear 1073741824 (pos size) = record { low = omega (arith, ints); high = omega (arith, ints) } in
    let rest : c.unsigned_abs.result % 2147483648 ≡ size = omega (arith, rw same_factor at c.unsigned_abs.ensures.value) in
    let magnitude : c.cast_signed.result ≡ pos size = c.cast_signed.ensures ∙ ap (to_z w64) rest ∙ to_z_pos w64 size (omega arith) in
    let fits_size : SFits w64 (pos size) = record { sfits = omega arith } in
    ap number_or_limit (sym product) ∙ short_product signed (pos size) near_signed near_size fits fits_size ∙ (λ i. Ok (int_wrapping_mul w64 (sym low i) (sym magnitude i)))
