use Rattle.change_rules.proofs.Copied.{push_arg}
use Rattle.change_rules.proofs.evaluation.copies_of.Goals as goal

pub loop-arg-preserved : goal.loop-arg-preserved
loop-arg-preserved c =
    push_arg c.loop-arg.arg-index c.args.args.now c.loop-arg.copies.items c.push.new.self.items c.in_ok-copy_of.field-0 c.arg-item.result c.loop-arg-test.true c.loop-arg.invariant c.in_ok-push.ensures.items
    c.in_ok-copy_of.ensures c.arg-item.is
