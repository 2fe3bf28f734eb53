use Rattle.std.{proofs.Common.{◌≡◌, ◌≢◌, ◌∙◌, ◌+◌, ◌*◌, ◌%◌, ◌<◌, ◌^◌, ap, sym, get_or, length, pos, arith, Ok, rules, to_z, of_z, w64, SFits, bit_or, below_more, get_or-set_same, get_or-set_other}, proofs.Math.ListN.{length-set}, proofs.lemmas.Int.{to_z-of_z}, proofs.lemmas.Nat.{le_or_l, le_or_r}}
use Rattle.search_fns.proofs.NearNumbers.{near_more}
use Rattle.search_fns.proofs.more_digits.put_unchecked.Goals as goal

pub loop-place-preserved : goal.loop-place-preserved
loop-place-preserved c =
    let k = c.loop-place.place in
    let sums = c.loop-place.sums in
    let z = get_or c.args.numbers.now k (pos 0) in
    let d = get_or c.args.digits.now k (pos 0) in
    let new = c.cast_signed.result in
    let z_fits : SFits w64 z = search rules in
    let d_fits : SFits w64 d = search rules in
    let number_is : c.cast_unsigned-number.result ≡ of_z w64 z = c.cast_unsigned-number.ensures ∙ ap (of_z w64) (to_z-of_z w64 z z_fits) in
    let digit_is : c.cast_unsigned-digit.result ≡ of_z w64 d = c.cast_unsigned-digit.ensures ∙ ap (of_z w64) (to_z-of_z w64 d d_fits) in
    let new_is : to_z w64 (of_z w64 new) ≡ new = to_z-of_z w64 _ (search rules) in
    let value : new ≡ to_z w64 ((of_z w64 z % 2147483648 * c.args.radix + of_z w64 d) % 2 ^ 64) = rw (number_is, digit_is, c.from.ensures) at c.cast_signed.ensures in
    let both = bit_or c.cast_unsigned-number.result c.cast_unsigned-digit.result in
    let here : k < length sums = search rules in
    rw new_is
    (record {
      long = length-set sums k new ∙ c.loop-place.invariant.long;
      made = λ low. below_more _ _
          (λ j below. let other : j ≢ k = omega arith in c.loop-place.invariant.made (omega (arith, low, le_or_l c.loop-place.bits both)) j below ∙ ap Ok (sym (get_or-set_other sums k j new (pos 0) other)))
          (let bits : both < 2 ^ 31 = omega (arith, low, le_or_r c.loop-place.bits both) in
          near_more z d c.args.radix z_fits d_fits (search rules) (omega (arith, bits, number_is, le_or_l c.cast_unsigned-number.result c.cast_unsigned-digit.result)) (omega (arith, bits, digit_is, le_or_r c.cast_unsigned-number.result c.cast_unsigned-digit.result))
          ∙ ap Ok (sym value ∙ sym (get_or-set_same sums k new (pos 0) here)));
    })
