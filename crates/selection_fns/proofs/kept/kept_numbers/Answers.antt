use Rattle.std.{proofs.Common.{◌≡◌, ◌<◌, ◌++◌, ◌∷◌, [], ◌∙◌, ap, sym, length, get_or, pos, unsigned_abs, true, arith, w64, to_z, of_z}, proofs.lemmas.Int.{ints}, proofs.lemmas.List.{length_push, same_from_push}, proofs.lemmas.List.Folds.{list_all_more}, proofs.lemmas.Bool.{and_from}}
use Rattle.selection_fns.{specs.Replicate.{is_bit}, proofs.Copies.{bit_small}, proofs.KeptNumbers.{one_of_bit, one_kept, not_kept}, proofs.kept.kept_numbers.Goals.{then-counts-place-eq0, else-counts-place-eq0}}
use Rattle.selection_fns.proofs.kept.kept_numbers.Goals as goal

pub loop-place-preserved : goal.loop-place-preserved
loop-place-preserved c =
    let zs = c.args.counts.now in
    let ns = c.args.numbers.now in
    let k = c.loop-place.place in
    let kept = c.loop-place.kept.items in
    let z = get_or zs k (pos 0) in
    let so_far = c.loop-place.invariant.so_far in
    let below : k < length zs = omega arith in
    let same : to_z w64 (of_z w64 z) ≡ z = omega (arith, ints) in
    let bit : is_bit z ≡ true = ap is_bit (sym same) ∙ sym c.is_bit.ensures ∙ c.if-not-is_bit.false in
    let bits = list_all_more is_bit zs k (pos 0) below ∙ and_from _ _ c.loop-place.invariant.bits bit in
    let number : to_z w64 (of_z w64 (get_or ns k (pos 0))) ≡ get_or ns k (pos 0) = omega (arith, ints) in
    let put : c.push_reserved.new.self.items ≡ kept ++ get_or ns k (pos 0) ∷ [] = c.push_reserved.ensures.items ∙ ap (λ x. kept ++ x ∷ []) number in
    let long = length_push kept (get_or ns k (pos 0)) in
    elim c.if-counts-place-eq0.branch [
      | then-counts-place-eq0 w ↦
          let none : unsigned_abs z ≡ 0 = ap unsigned_abs (sym same ∙ ap (to_z w64) w.if-counts-place-eq0.true) in
          let back : w.take_last.new.self.items ≡ kept = (same_from_push w.take_last.new.self.items kept w.take_last.result (get_or ns k (pos 0)) (sym w.take_last.ensures.items ∙ put)).0 in
          rw w.kept-is (record {
            bits = bits;
            room = omega (arith, c.push_reserved.ensures.capacity, w.take_last.ensures.capacity);
            few = rw back (omega arith);
            so_far = rw back (not_kept zs ns k kept below none so_far);
          })
      | else-counts-place-eq0 w ↦
          let one : unsigned_abs z ≡ 1 = one_of_bit z (bit_small z bit) w.if-counts-place-eq0.false in
          rw w.kept-is (record {
            bits = bits;
            room = omega (arith, c.push_reserved.ensures.capacity);
            few = rw put (omega arith);
            so_far = one_kept zs ns k kept c.push_reserved.new.self.items below one put so_far;
          })
    ]
