use Rattle.std.{proofs.Common.{◌≡◌, ◌∙◌, ◌+◌, ◌-◌, ap, sym, subst, get_or, pos, length, arith, Ok, drop, w64, rules}, proofs.lemmas.Int.{to_z-of_z}}
use Rattle.item_fns.{specs.Folds.{folded}, proofs.RightFolds.{fold_last, rest_more, error_stands}, proofs.Errors.{passed_on}, proofs.folds.fold_by_steps.Given.{Over}, proofs.folds.fold_by_steps.Goals.{After-at}}
use Rattle.item_fns.proofs.folds.fold_by_steps.Goals as goal

pub loop-before-init : goal.loop-before-init
loop-before-init g c =
    let xs = c.args.numbers.now in
    let last = get_or xs (length xs - 1) (pos 0) in
    record {
      folded = fold_last (g.S.TwoNumbers.gives c.args.step.now) xs (length xs - 1) (pos 0) (omega (arith, c.requires)) ∙ ap Ok (sym (to_z-of_z w64 last (search rules)));
      below = omega (arith, c.requires);
    }

-- the fold from here on is the result of the step
at_gives : (g : Over) (c : After-at g) → folded (g.S.TwoNumbers.gives c.args.step.now) (drop (c.loop-before.before - 1) c.args.numbers.now) ≡ c.at.result
at_gives g c =
    let f = g.S.TwoNumbers.gives c.args.step.now in
    let xs = c.args.numbers.now in
    let j = c.loop-before.before - 1 in
    let below = c.loop-before.invariant.below in
    let e : c.loop-before.before ≡ j + 1 = let test = c.loop-before-test.true in omega arith in
    let later = subst (λ k. folded f (drop k xs) ≡ Ok c.loop-before.result) e (c.loop-before.invariant.folded ∙ ap Ok c.loop-before.result-is) in
    rest_more f xs (pos 0) j c.loop-before.result (omega arith) later ∙ sym (rw (to_z-of_z w64 (get_or xs j (pos 0)) (search rules), c.loop-before.result-is) at c.at.ensures)

pub returns-in_err-result : goal.returns-in_err-result
returns-in_err-result g c =
    passed_on _ _ c.from_residual.ensures
    ∙ sym (error_stands _ c.args.numbers.now (c.loop-before.before - 1) _ (omega arith) (at_gives g (goal.at.returns-in_err-result g c).After-at ∙ c.in_err-result.was))

pub loop-before-preserved : goal.loop-before-preserved
loop-before-preserved g c =
    record {
      folded = at_gives g (goal.at.loop-before-preserved g c).After-at ∙ c.in_ok-result.was ∙ ap Ok (sym (to_z-of_z w64 c.in_ok-result.result (search rules)));
      below = omega arith;
    }
