use Rattle.std.{proofs.Common.{◌≡◌, ◌∙◌, ◌+◌, ◌-◌, ◌*◌, ap, sym, subst, get_or, pos, arith, Ok, drop, take, w64, rules}, proofs.lemmas.Int.{to_z-of_z}}
use Rattle.item_fns.{specs.Folds.{strided, folded}, proofs.RightFolds.{error_stands, length-strided, strided_last, strided_more, strided_run}, proofs.Errors.{passed_on}, proofs.folds.fold_numbers.Given.{Over}, proofs.folds.fold_numbers.Goals.{After-at}}
use Rattle.item_fns.proofs.folds.fold_numbers.Goals as goal

pub loop-before-init : goal.loop-before-init
loop-before-init g c =
    record {
      folded = strided_last (pos 0) c.args.numbers.now (g.S.TwoNumbers.gives c.args.step.now) c.args.first c.args.stride c.args.count c.requires.some
          ∙ ap Ok (sym (to_z-of_z w64 (get_or c.args.numbers.now (c.args.first + (c.args.count - 1) * c.args.stride) (pos 0)) (search rules)));
      below = omega arith;
    }

-- the fold from here on is the result of the step
at_gives : (g : Over) (c : After-at g)
    → folded (g.S.TwoNumbers.gives c.args.step.now) (drop (c.loop-before.before - 1) (strided (pos 0) c.args.numbers.now c.args.first c.args.stride c.args.count)) ≡ c.at.result
at_gives g c =
    let f = g.S.TwoNumbers.gives c.args.step.now in
    let xs = c.args.numbers.now in
    let j = c.loop-before.before - 1 in
    let e : c.loop-before.before ≡ j + 1 = let test = c.loop-before-test.true in omega arith in
    let later = subst (λ k. folded f (drop k (strided (pos 0) xs c.args.first c.args.stride c.args.count)) ≡ Ok c.loop-before.result) e (c.loop-before.invariant.folded ∙ ap Ok c.loop-before.result-is) in
    strided_more (pos 0) xs f c.args.first c.args.stride c.args.count j c.loop-before.result (omega (arith, c.loop-before.invariant.below)) later
    ∙ sym (rw (to_z-of_z w64 (get_or xs (c.args.first + j * c.args.stride) (pos 0)) (search rules), c.loop-before.result-is) at c.at.ensures)

pub returns-in_err-result : goal.returns-in_err-result
returns-in_err-result g c =
    let long = length-strided (pos 0) c.args.numbers.now c.args.first c.args.stride c.args.count in
    passed_on _ _ c.from_residual.ensures
    ∙ sym (error_stands _ _ (c.loop-before.before - 1) _ (omega (arith, c.loop-before.invariant.below)) (at_gives g (goal.at.returns-in_err-result g c).After-at ∙ c.in_err-result.was))

pub loop-before-preserved : goal.loop-before-preserved
loop-before-preserved g c =
    record {
      folded = at_gives g (goal.at.loop-before-preserved g c).After-at ∙ c.in_ok-result.was ∙ ap Ok (sym (to_z-of_z w64 c.in_ok-result.result (search rules)));
      below = omega (arith, c.loop-before.invariant.below);
    }

pub returns-then-stride-eq1 : goal.returns-then-stride-eq1
returns-then-stride-eq1 g c =
    let f = g.S.TwoNumbers.gives c.args.step.now in
    let high = rw c.if-stride-eq1.true at c.requires.high in
    c.fold_list.ensures
    ∙ ap (λ m. folded f (take m (drop c.args.first c.args.numbers.now))) (omega arith)
    ∙ ap (folded f) (strided_run (pos 0) c.args.numbers.now c.args.first c.args.count (omega arith))
    ∙ ap (λ s. folded f (strided (pos 0) c.args.numbers.now c.args.first s c.args.count)) (sym c.if-stride-eq1.true)
