use Rattle.std.{proofs.Common.{◌≡◌, ◌+◌, ◌++◌, ◌∷◌, [], ◌∙◌, ap, sym, pos, arith, w64, to_z, of_z}, proofs.lemmas.Int.{ints}, proofs.lemmas.List.FromFn.{map-range_with_len_more}}
use Rattle.selection_fns.proofs.index_generator.first_numbers.Goals as goal

pub loop-k-preserved : goal.loop-k-preserved
loop-k-preserved c =
    let z = to_z w64 (of_z w64 c.from.result) in
    let own : z ≡ pos (c.loop-k.k + 1) = (omega (arith, ints)) ∙ c.from.ensures in
    record {
      room = omega arith;
      made = c.push_reserved.ensures.items ∙ ap (λ z. c.loop-k.numbers.items ++ z ∷ []) own ∙ ap (λ xs. xs ++ pos (c.loop-k.k + 1) ∷ []) c.loop-k.invariant.made
          ∙ sym (map-range_with_len_more pos 1 c.loop-k.k (c.loop-k.k + 1) (omega arith));
    }
