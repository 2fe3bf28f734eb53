use Rattle.{std.proofs.Common.{◌∙◌, sym}, scalar_fns.proofs.ReachedAtOnce.{keeps_one_shape, keeps_left, keeps_right}}
use Rattle.scalar_fns.proofs.each_dyadic.keep_places.Goals as goal

pub returns-in-true-true : goal.returns-in-true-true
returns-in-true-true c holds = keeps_one_shape c.args.left.now c.args.right.now _ _ (sym c.have_one_shape.ensures ∙ holds)

pub returns-then-is_extended_to : goal.returns-then-is_extended_to
returns-then-is_extended_to c holds = keeps_left c.args.left.now c.args.right.now _ _ c.in-true-false.is-1 (sym c.is_extended_to.ensures ∙ holds)

pub returns-else-is_extended_to : goal.returns-else-is_extended_to
returns-else-is_extended_to c holds = keeps_one_shape c.args.left.now c.args.right.now _ _ (sym c.have_one_shape-else-is_extended_to.ensures ∙ holds)

pub returns-then-is_extended_to-2 : goal.returns-then-is_extended_to-2
returns-then-is_extended_to-2 c holds = keeps_right c.args.left.now c.args.right.now _ _ c.in-false-default.is-0 (sym c.is_extended_to-in-false-default.ensures ∙ holds)

pub returns-else-is_extended_to-2 : goal.returns-else-is_extended_to-2
returns-else-is_extended_to-2 c holds = keeps_one_shape c.args.left.now c.args.right.now _ _ (sym c.have_one_shape-else-is_extended_to-2.ensures ∙ holds)
