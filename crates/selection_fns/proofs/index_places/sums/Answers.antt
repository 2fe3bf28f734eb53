use Rattle.{std.proofs.Common.{◌+◌, ◌++◌, ◌∙◌, ap, sym, length, map, get_or, arith}, selection_fns.proofs.PlaceSums.{sums_more, sums_one}}
use Rattle.selection_fns.proofs.index_places.sums.Goals as goal

pub loop-k-preserved : goal.loop-k-preserved
loop-k-preserved c =
    let first = c.args.first.now in
    let second = c.args.second.now in
    let k = c.loop-k.k in
    record {
      room = omega (arith, c.loop-k.invariant.room, c.with_moved-list.ensures.room);
      long = c.with_moved-list.ensures.long ∙ ap (λ n. n + length second) c.loop-k.invariant.long ∙ (omega arith);
      made = c.with_moved-list.ensures.items ∙ ap (λ xs. xs ++ map (λ y. get_or first k 0 + y) second) c.loop-k.invariant.made ∙ sym (sums_more first second k (omega arith));
    }

pub returns-then-second-eq1 : goal.returns-then-second-eq1
returns-then-second-eq1 c =
    let first = c.args.first.now in
    let second = c.args.second.now in
    c.with_moved.ensures.items ∙ ap (λ xs. xs ++ map (λ y. get_or second 0 0 + y) first) c.in_ok-list.ensures.items ∙ sums_one first second c.if-second-eq1.true
