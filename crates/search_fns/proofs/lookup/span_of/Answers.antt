use Rattle.std.{proofs.Common.{◌∙◌, pos, w64, to_z, map, arith, sym}, proofs.lemmas.Int.{ints}, proofs.lemmas.List.{length-map}}
use Rattle.search_fns.proofs.Lookups.{key_at, one_more_spanned, spanned}
use Rattle.search_fns.proofs.lookup.span_of.Goals as goal

pub loop-item-preserved : goal.loop-item-preserved
loop-item-preserved g c =
    let here = key_at g.T.Key.code c.args.items.now c.loop-item.item-index c.item-item.result (pos 0) c.loop-item-test.true c.item-item.is in
    one_more_spanned (map g.T.Key.code c.args.items.now) c.loop-item.item-index c.key.result (to_z w64 c.loop-item.least-bits) (to_z w64 c.loop-item.greatest-bits) _ _
    (here ∙ sym c.key.ensures) (omega (arith, ints, c.min-least.ensures.self_bound)) (omega (arith, ints, c.min-least.ensures.other_bound))
    (omega (arith, ints, c.max-greatest.ensures.self_bound)) (omega (arith, ints, c.max-greatest.ensures.other_bound, c.key.ensures, c.key-in-loop-item.ensures)) c.loop-item.invariant

pub returns-then-span-items : goal.returns-then-span-items
returns-then-span-items g c =
    let long = length-map c.args.items.now g.T.Key.code in
    spanned (map g.T.Key.code c.args.items.now) (to_z w64 c.loop-item.least-bits) (to_z w64 c.loop-item.greatest-bits) c.abs_diff-span.result c.abs_diff-span.ensures
    (λ j h. c.loop-item.invariant j (omega arith))
