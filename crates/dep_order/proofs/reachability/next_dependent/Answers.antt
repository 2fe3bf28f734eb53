use Rattle.{std.proofs.Common.{arith, below_more}, dep_order.proofs.Marks.{of_none}}
use Rattle.dep_order.proofs.reachability.next_dependent.Goals as goal

pub loop-next-preserved-then-marks-next : goal.loop-next-preserved-then-marks-next
loop-next-preserved-then-marks-next c = below_more _ _ c.loop-next.invariant (λ b p h. c.if-marks-next.true)

pub loop-next-preserved : goal.loop-next-preserved
loop-next-preserved c = below_more _ _ c.loop-next.invariant (λ b p h. absurd (of_none _ c.hit.result c.hit.ensures.none c.if-is_some.ensures b p h))

pub returns-clause-none : goal.returns-clause-none
returns-clause-none c = λ a b l p h. c.loop-next.invariant a (omega arith) b p h
