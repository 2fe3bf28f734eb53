use Rattle.std.proofs.Common.{◌∙◌, ◌-◌, ◌++◌, ◌^◌, ap, subst, length, map, get_or, drop, pos, arith, Ok}
use Rattle.std.proofs.lemmas.List.{take_all, length-drop}
use Rattle.{item_fns.specs.Numbers.{floor_div, residue}, search_fns.{specs.EncodedRows.{ArePowers}, proofs.{Bits.{fits_number}, PowerRadices.{digit_before, no_rows, one_more_row}}}}
use Rattle.search_fns.proofs.bit_rows.rows_after_rests.Goals as goal

pub with_rows-requires-clause-begun : goal.with_rows-requires-clause-begun
with_rows-requires-clause-begun c =
    let radices = c.args.radices.now in
    let zs = c.args.numbers.now in
    let bits = c.in-Some.bits in
    let powers : ArePowers (drop 1 radices) bits = subst (λ xs. ArePowers xs bits) (take_all (length radices - 1) (drop 1 radices) (omega (arith, length-drop 1 radices))) c.in-Some.ensures.is in
    one_more_row radices zs 0 _ c.with_rests-list.result.items (λ z. floor_div z (pos (2 ^ bits))) (no_rows radices zs)
    (c.with_rests-list.ensures.items ∙ ap (λ xs. xs ++ map (λ z. floor_div z (pos (2 ^ bits))) zs) c.in_ok-list.ensures.items)
    (λ j inside. digit_before radices 0 bits (get_or zs j (pos 0)) powers (fits_number _ (c.with_rests-list.ensures.fit j inside)) ∙ ap (λ r. Ok (residue r (floor_div (get_or zs j (pos 0)) (pos (2 ^ bits))))) c.requires.zero)
