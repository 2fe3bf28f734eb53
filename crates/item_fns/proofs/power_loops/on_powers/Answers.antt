use Rattle.std.{proofs.Common.{◌≡◌, sym, subst, ℤ, get_or, pos, map, w64, SFits, rules}, proofs.lemmas.Int.{to_z-of_z}}
use Rattle.arrays_core.specs.Items.{all_or_first_error}
use Rattle.item_fns.{specs.Numbers.{power}, specs.NumberLists.{IsListAnswerTo}, proofs.Lists.{results_of_one_left, results_of_one_right}, proofs.Signs.{by_bits}}
use Rattle.item_fns.proofs.power_loops.on_powers.Goals as goal

pub returns-then-right-ge-KEPT-clause-is : goal.returns-then-right-ge-KEPT-clause-is
returns-then-right-ge-KEPT-clause-is c =
    let first = get_or c.args.left.now 0 (pos 0) in
    let fits : SFits w64 first = search rules in
    rw (results_of_one_left power c.args.left.now c.args.right.now c.if-left-eq1.true)
    (subst (λ (b : ℤ). IsListAnswerTo (all_or_first_error (map (power b) c.args.right.now)) c.on_each.result) (rw (to_z-of_z w64 _ fits) at c.new.ensures) c.on_each.ensures.is)

pub returns-then-right-eq2-clause-is : goal.returns-then-right-eq2-clause-is
returns-then-right-eq2-clause-is c =
    let first = get_or c.args.right.now 0 (pos 0) in
    let two : pos 2 ≡ first = sym (by_bits first 2 (search rules) c.if-right-eq2.true) in
    rw (results_of_one_right power c.args.left.now c.args.right.now c.if-left-ne1.true c.if-right-eq1.true)
    (subst (λ (b : ℤ). IsListAnswerTo (all_or_first_error (map (λ a. power a b) c.args.left.now)) c.on_each-then-right-eq2.result) two c.on_each-then-right-eq2.ensures.is)
