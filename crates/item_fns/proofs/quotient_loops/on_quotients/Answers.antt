use Rattle.std.{proofs.Common.{◌≡◌, ◌∙◌, subst, ℤ, get_or, pos, map, w64, SFits, rules}, proofs.lemmas.Int.{to_z-of_z}}
use Rattle.arrays_core.specs.Items.{all_or_first_error}
use Rattle.item_fns.{specs.Numbers.{quotient}, specs.NumberLists.{IsListAnswerTo}, proofs.Lists.{results_of_one_right}}
use Rattle.item_fns.proofs.quotient_loops.on_quotients.Goals as goal

pub returns-in-Some-clause-is : goal.returns-in-Some-clause-is
returns-in-Some-clause-is c =
    let first = get_or c.args.right.now 0 (pos 0) in
    let fits : SFits w64 first = search rules in
    let divisor : c.in-Some.divisor.divisor ≡ first = c.in-Some.ensures ∙ to_z-of_z w64 first fits in
    rw (results_of_one_right quotient c.args.left.now c.args.right.now c.if-left-ne1.true c.if-right-eq1.true)
    (subst (λ (b : ℤ). IsListAnswerTo (all_or_first_error (map (λ a. quotient a b) c.args.left.now)) c.on_each.result) divisor c.on_each.ensures.is)
