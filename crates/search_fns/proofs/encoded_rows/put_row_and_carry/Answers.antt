use Rattle.std.{proofs.Common.{◌≡◌, ◌≢◌, ◌∙◌, ◌+◌, ◌<◌, ap, sym, get_or, length, pos, arith, Ok, rules, to_z, of_z, w64, below_more, get_or-set_same, get_or-set_other}, proofs.Math.ListN.{length-set}, proofs.lemmas.Int.{to_z-of_z}}
use Rattle.{item_fns.specs.Numbers.{residue}, search_fns.specs.Encode.{carried}}
use Rattle.search_fns.proofs.encoded_rows.put_row_and_carry.Goals as goal

pub loop-place-preserved : goal.loop-place-preserved
loop-place-preserved c =
    let zs = c.args.rests.now in
    let before = c.args.before in
    let radix = c.args.radix in
    let k = c.loop-place.place in
    let digits = c.loop-place.digits in
    let rests = c.loop-place.rests in
    let digit = c.digit_beside.result in
    let left = c.in_ok-left.left in
    let digit_is : to_z w64 (of_z w64 digit) ≡ digit = to_z-of_z w64 _ (search rules) in
    let left_is : to_z w64 (of_z w64 left) ≡ left = to_z-of_z w64 _ (search rules) in
    let radix_is : to_z w64 (of_z w64 radix) ≡ radix = to_z-of_z w64 _ c.ranges.radix in
    let rest_is : to_z w64 (of_z w64 (get_or rests k (pos 0))) ≡ get_or rests k (pos 0) = to_z-of_z w64 _ (search rules) in
    let old : get_or rests k (pos 0) ≡ get_or zs k (pos 0) = c.loop-place.invariant.left k (omega arith) in
    let made : digit ≡ residue radix (get_or zs k (pos 0)) = rw (radix_is, rest_is) at c.digit_beside.ensures ∙ ap (residue radix) old in
    let prepared : c.new-by.result.number ≡ radix = c.new-by.ensures ∙ radix_is in
    let gave : carried radix (get_or rests k (pos 0)) ≡ Ok left = rw (prepared, rest_is) at (sym c.left.ensures) ∙ c.in_ok-left.was in
    let here : k < length rests = omega (arith, c.loop-place.invariant.many) in
    let inside : before + k < length digits = omega (arith, c.loop-place.invariant.many, c.requires, c.loop-place.invariant.long) in
    rw (digit_is, left_is)
    (record {
      long = length-set digits (before + k) digit ∙ c.loop-place.invariant.long;
      made = below_more _ _
          (λ j below. let other : before + j ≢ before + k = omega arith in get_or-set_other digits (before + k) (before + j) digit (pos 0) other ∙ c.loop-place.invariant.made j below)
          (get_or-set_same digits (before + k) digit (pos 0) inside ∙ made ∙ ap (λ r. residue r (get_or zs k (pos 0))) (sym radix_is));
      in_front = λ m below. let other : m ≢ before + k = omega arith in get_or-set_other digits (before + k) m digit (pos 0) other ∙ c.loop-place.invariant.in_front m below;
      behind = λ m above. let other : m ≢ before + k = omega arith in get_or-set_other digits (before + k) m digit (pos 0) other ∙ c.loop-place.invariant.behind m (omega arith);
      many = length-set rests k left ∙ c.loop-place.invariant.many;
      carried = below_more _ _
          (λ j below. let other : j ≢ k = omega arith in c.loop-place.invariant.carried j below ∙ ap Ok (sym (get_or-set_other rests k j left (pos 0) other)))
          (ap (λ r. carried r (get_or zs k (pos 0))) radix_is ∙ ap (carried radix) (sym old) ∙ gave ∙ ap Ok (sym (get_or-set_same rests k left (pos 0) here)));
      left = λ j above. let other : j ≢ k = omega arith in get_or-set_other rests k j left (pos 0) other ∙ c.loop-place.invariant.left j (omega arith);
    })
