use Rattle.std.{proofs.Common.{rules, ◌≡◌, ◌∙◌, ◌+◌, ◌-◌, ◌*◌, ◌∷◌, [], ◌++◌, pos, ap, sym, get_or, arith, w64}, proofs.lemmas.Int.{to_z-of_z}, proofs.lemmas.List.FromFn.{map-range_with_len_more}}
use Rattle.index_region.specs.Arguments.{numbers}
use Rattle.reduce_fns.proofs.right_fold.numbers_apart.Goals as goal

pub loop-before-preserved : goal.loop-before-preserved
loop-before-preserved c =
    let zs = numbers c.args.array.now in
    let from = c.args.first - 1 in
    let s = c.args.stride in
    let read : c.number.result ≡ get_or zs (from + c.loop-before.before * s) (pos 0) = c.number.ensures ∙ ap (λ m. get_or zs m (pos 0)) (omega (arith, c.requires.low)) in
    record {
      read = (rw (to_z-of_z w64 c.number.result (search rules)) at c.push_reserved.ensures.items)
          ∙ ap (λ ys. ys ++ c.number.result ∷ []) c.loop-before.invariant.read
          ∙ (rw read (sym (map-range_with_len_more (λ k. get_or zs (from + k * s) (pos 0)) 0 c.loop-before.before c.loop-before.before (omega arith))));
      long = omega (arith, c.push_reserved.ensures.len, c.loop-before.invariant.long);
      room = omega (arith, c.push_reserved.ensures.capacity, c.loop-before.invariant.room);
    }
