use Rattle.{std.proofs.Common.{◌+◌, ◌<◌, ◌∷◌, ◌++◌, ◌∙◌, [], ap, length, get_or, arith}, selection_fns.proofs.PlaceSums.{pairs_more}}
use Rattle.selection_fns.proofs.index_places.with_pairs.Goals as goal

pub loop-k-preserved : goal.loop-k-preserved
loop-k-preserved c =
    let first = c.args.first.now in
    let k = c.loop-k.k in
    let below : k < length first = omega arith in
    let other = c.push_reserved-in-loop-k.ensures in
    record {
      room = omega (arith, c.loop-k.invariant.room, c.push_reserved.ensures.capacity, other.capacity);
      long = omega (arith, c.loop-k.invariant.long, c.push_reserved.ensures.len, other.len);
      made = pairs_more c.args.list.items c.loop-k.list.items c.push_reserved-in-loop-k.new.self.items first c.args.second.now k below c.requires.two c.loop-k.invariant.made
          (other.items ∙ ap (λ xs. xs ++ (get_or first k 0 + get_or c.args.second.now 1 0) ∷ []) c.push_reserved.ensures.items);
    }
