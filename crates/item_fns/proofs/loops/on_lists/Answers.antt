use Rattle.std.{proofs.Common.{get_or, pos, w64, SFits, rules}, proofs.lemmas.Int.{to_z-of_z}}
use Rattle.item_fns.proofs.Lists.{results_of_one_left, results_of_one_right, results_of_pairs}
use Rattle.item_fns.proofs.loops.on_lists.Goals as goal

pub returns-then-left-eq1-clause-is : goal.returns-then-left-eq1-clause-is
returns-then-left-eq1-clause-is g c =
    let first = get_or c.args.left.now 0 (pos 0) in
    let fits : SFits w64 first = search rules in
    rw (results_of_one_left (g.S.TwoNumbers.gives c.args.step) c.args.left.now c.args.right.now c.if-left-eq1.true) (rw (to_z-of_z w64 _ fits) at c.with_left.ensures.is)

pub returns-then-right-eq1-clause-is : goal.returns-then-right-eq1-clause-is
returns-then-right-eq1-clause-is g c =
    let first = get_or c.args.right.now 0 (pos 0) in
    let fits : SFits w64 first = search rules in
    rw (results_of_one_right (g.S.TwoNumbers.gives c.args.step) c.args.left.now c.args.right.now c.if-left-eq1.false c.if-right-eq1.true)
    (simp (to_z-of_z w64 _ fits) at c.on_each.ensures.is)

pub returns-else-right-eq1-clause-is : goal.returns-else-right-eq1-clause-is
returns-else-right-eq1-clause-is g c =
    rw (results_of_pairs (g.S.TwoNumbers.gives c.args.step) c.args.left.now c.args.right.now (c.requires c.if-left-eq1.false c.if-right-eq1.false)) c.made.ensures.is
