use Rattle.std.proofs.Common.{◌≡◌, ◌∙◌, ◌^◌, below_more, get_or, pos, arith, rules, to_z, of_z, w64, SFits}
use Rattle.std.{specs.Int.{int_shr}, proofs.lemmas.Int.{to_z-of_z}}
use Rattle.{item_fns.specs.Numbers.{floor_div}, search_fns.proofs.{Bits.{number_fits, shift_fits, shifted}, PowerRadices.{one_more_number}}}
use Rattle.search_fns.proofs.bit_rows.with_rests.Goals as goal

pub loop-place-preserved : goal.loop-place-preserved
loop-place-preserved c =
    let zs = c.args.numbers.now in
    let k = c.loop-place.place in
    let z = get_or zs k (pos 0) in
    let dropped = c.args.dropped in
    let f : SFits w64 z = search rules in
    let number_is : to_z w64 (of_z w64 z) ≡ z = to_z-of_z w64 z f in
    let rest_is : to_z w64 (of_z w64 (int_shr z dropped)) ≡ int_shr z dropped = to_z-of_z w64 _ (shift_fits z dropped f) in
    record {
      room = c.push_reserved.ensures.capacity ∙ c.loop-place.invariant.room;
      long = c.push_reserved.ensures.len ∙ omega (arith, c.loop-place.invariant.long);
      made = one_more_number (λ x. floor_div x (pos (2 ^ dropped))) c.args.list.items c.loop-place.list.items c.push_reserved.new.self.items zs k (int_shr z dropped)
          c.loop-place-test.true c.loop-place.invariant.made (rw (number_is, rest_is) at c.push_reserved.ensures.items) (shifted z dropped);
      fit = below_more _ _ c.loop-place.invariant.fit (number_fits z f);
    }
