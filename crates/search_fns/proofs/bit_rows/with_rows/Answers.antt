use Rattle.std.proofs.Common.{◌≡◌, ◌∙◌, ◌-◌, ◌^◌, ap, sym, subst, SFits, get_or, pos, arith, rules, w64, Ok}
use Rattle.std.proofs.lemmas.Int.{to_z-of_z}
use Rattle.{item_fns.specs.Numbers.{floor_div, residue}, search_fns.proofs.{Bits.{fits_number}, PowerRadices.{exponent_below, exponent_there, first_power, digit_before, one_more_row}}}
use Rattle.search_fns.proofs.bit_rows.with_rows.Goals as goal

pub unreachable-requires : goal.unreachable-requires
unreachable-requires c =
    let radices = c.args.radices.now in
    let k = c.loop-place.place in
    let fits : SFits w64 (get_or radices k (pos 0)) = search rules in
    let power = exponent_there radices k c.loop-place.dropped c.loop-place-test.true c.loop-place.invariant.powers in
    c.in_default.ensures.none power.exponent power.some (exponent_below power.exponent (subst (SFits w64) power.is fits)) (to_z-of_z w64 _ fits ∙ power.is)

pub overflow_sub-dropped : goal.overflow_sub-dropped
overflow_sub-dropped c =
    let radices = c.args.radices.now in
    let k = c.loop-place.place in
    let here : get_or radices k (pos 0) ≡ pos (2 ^ c.in-Some.own) = sym (to_z-of_z w64 _ (search rules)) ∙ c.in-Some.ensures.is in
    (first_power radices k c.loop-place.dropped c.in-Some.own c.loop-place-test.true c.loop-place.invariant.powers here).few

pub loop-place-preserved : goal.loop-place-preserved
loop-place-preserved c =
    let radices = c.args.radices.now in
    let zs = c.args.numbers.now in
    let k = c.loop-place.place in
    let own = c.in-Some.own in
    let dropped = c.loop-place.dropped - own in
    let here : get_or radices k (pos 0) ≡ pos (2 ^ own) = sym (to_z-of_z w64 _ (search rules)) ∙ c.in-Some.ensures.is in
    let power = first_power radices k c.loop-place.dropped own c.loop-place-test.true c.loop-place.invariant.powers here in
    record {
      room = omega (arith, c.with_row-list.ensures.room, c.loop-place.invariant.room);
      powers = power.others;
      few = omega (arith, c.loop-place.invariant.few);
      rows = one_more_row radices zs k c.loop-place.list.items c.with_row-list.result.items (λ z. residue (pos (2 ^ own)) (floor_div z (pos (2 ^ dropped)))) c.loop-place.invariant.rows
          c.with_row-list.ensures.items
          (λ j inside. digit_before radices k dropped (get_or zs j (pos 0)) power.others (fits_number _ (c.with_row-list.ensures.fit j inside)) ∙ ap (λ r. Ok (residue r (floor_div (get_or zs j (pos 0)) (pos (2 ^ dropped))))) here);
    }
