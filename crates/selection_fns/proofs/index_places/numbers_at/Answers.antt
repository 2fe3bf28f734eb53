use Rattle.{std.proofs.Common.{◌+◌, ◌<◌, ◌∙◌, [], ap, length, get_or, pos, arith}, selection_fns.proofs.PlaceSums.{picked_more}}
use Rattle.selection_fns.proofs.index_places.numbers_at.Goals as goal

pub loop-k-preserved : goal.loop-k-preserved
loop-k-preserved c =
    let numbers = c.args.numbers.now in
    let heads = c.args.heads.now in
    let row = c.args.row.now in
    let k = c.loop-k.k in
    let below : k < length heads = omega arith in
    record {
      room = omega (arith, c.loop-k.invariant.room, c.with_numbers_at-list.ensures.room);
      long = c.with_numbers_at-list.ensures.long ∙ ap (λ n. n + length row) c.loop-k.invariant.long ∙ (omega arith);
      made = picked_more (λ place. get_or numbers place (pos 0)) [] c.loop-k.list.items c.with_numbers_at-list.result.items heads row k below c.loop-k.invariant.made c.with_numbers_at-list.ensures.items;
    }
