use Rattle.change_rules.proofs.Told.{split_more}
use Rattle.change_rules.proofs.arguments.lists_of.Goals as goal

pub loop-view-preserved : goal.loop-view-preserved
loop-view-preserved c =
    split_more c.loop-view.view-index c.args.args.now c.loop-view.seen.items c.push.new.self.items c.loop-view.moved.items c.push-in-loop-view.new.self.items c.again.result c.of.result c.loop-view-item.result
    c.loop-view-test.true c.loop-view.invariant c.in_ok-push.ensures.items c.in_ok-push-2.ensures.items c.again.ensures c.of.ensures c.loop-view-item.is
