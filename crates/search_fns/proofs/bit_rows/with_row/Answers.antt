use Rattle.std.proofs.Common.{below_more, ◌≡◌, ◌∙◌, ◌-◌, ◌/◌, ◌^◌, ap, get_or, pos, arith, rules, to_z, of_z, w64, SFits, bit_and}
use Rattle.std.proofs.lemmas.Int.{to_z-of_z}
use Rattle.{item_fns.specs.Numbers.{floor_div, residue}, search_fns.proofs.{Bits.{mask_is, number_fits, run_of_bits}, PowerRadices.{one_more_number}}}
use Rattle.search_fns.proofs.bit_rows.with_row.Goals as goal

pub loop-place-preserved : goal.loop-place-preserved
loop-place-preserved c =
    let zs = c.args.numbers.now in
    let k = c.loop-place.place in
    let z = get_or zs k (pos 0) in
    let dropped = c.args.dropped in
    let bits = c.args.bits in
    let f : SFits w64 z = search rules in
    let word_is : c.cast_unsigned.result ≡ of_z w64 z = c.cast_unsigned.ensures ∙ ap (of_z w64) (to_z-of_z w64 z f) in
    let pushed : to_z w64 (of_z w64 c.cast_signed.result) ≡ c.cast_signed.result = to_z-of_z w64 _ (search rules) in
    let value : c.cast_signed.result ≡ residue (pos (2 ^ bits)) (floor_div z (pos (2 ^ dropped))) =
    c.cast_signed.ensures
    ∙ ap (λ m. to_z w64 (bit_and (c.cast_unsigned.result / 2 ^ dropped) m)) (mask_is bits c.requires.few)
    ∙ ap (λ w. to_z w64 (bit_and (w / 2 ^ dropped) (2 ^ bits - 1))) word_is
    ∙ run_of_bits z dropped bits c.requires.few (omega (arith, c.requires.inside)) f in
    record {
      room = c.push_reserved.ensures.capacity ∙ c.loop-place.invariant.room;
      long = c.push_reserved.ensures.len ∙ omega (arith, c.loop-place.invariant.long);
      made = one_more_number (λ x. residue (pos (2 ^ bits)) (floor_div x (pos (2 ^ dropped)))) c.args.list.items c.loop-place.list.items c.push_reserved.new.self.items zs k _
          c.loop-place-test.true c.loop-place.invariant.made c.push_reserved.ensures.items (pushed ∙ value);
      fit = below_more _ _ c.loop-place.invariant.fit (number_fits z f);
    }
