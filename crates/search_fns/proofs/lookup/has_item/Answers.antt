use Rattle.{std.specs.Ordering.{int_eq}, search_fns.proofs.Lookups.{one_more_read}}
use Rattle.search_fns.proofs.lookup.has_item.Goals as goal

pub loop-item-preserved : goal.loop-item-preserved
loop-item-preserved g c =
    one_more_read g.T.Key.code (int_eq (g.T.Key.code c.args.sought)) c.args.items.now c.loop-item.item-index c.item-item.result c.loop-item.is_found c.is_one-is_found.result
    c.loop-item-test.true c.item-item.is c.loop-item.invariant c.is_one-is_found.ensures
