use Rattle.{std.proofs.Common.{◌≡◌, ◌∙◌, ◌+◌, ◌-◌, ap, sym, subst, get_or, length, arith, Ok, drop}, arrays_core.specs.Items.{fill}}
use Rattle.item_fns.{specs.Items.{dyadic_on_items}, specs.Folds.{strided, folded}, proofs.RightFolds.{error_stands, strided_last, strided_more, length-strided}, proofs.Errors.{passed_on}, proofs.ItemFolds.{some_folded}}
use Rattle.reduce_fns.{proofs.Folds.{place_high}, proofs.right_fold.fold_items.Goals.{After-two}}
use Rattle.reduce_fns.proofs.right_fold.fold_items.Goals as goal

pub overflow_mul-count : goal.overflow_mul-count
overflow_mul-count c = omega (arith, c.requires.high, c.requires.few)

pub overflow_add-first : goal.overflow_add-first
overflow_add-first c = omega (arith, c.requires.high, c.requires.few)

pub loop-before-init : goal.loop-before-init
loop-before-init c =
    let d = fill c.args.array.now.item_type in
    record {
      folded = strided_last d c.args.array.now.items (dyadic_on_items c.args.function) (c.args.first - 1) c.args.stride c.args.count c.requires.some
          ∙ ap Ok (sym (c.item-result.ensures.is ∙ ap (λ m. get_or c.args.array.now.items m d) (omega (arith, c.requires.low))));
      below = omega (arith, c.requires.some);
      typed_last = λ h. c.item-result.ensures.typed;
      typed = λ h. absurd (omega arith);
    }

pub overflow_mul-before : goal.overflow_mul-before
overflow_mul-before c =
    omega (arith, place_high c.args.first c.args.stride c.args.count (c.loop-before.before - 1) (length c.args.array.now.items) (omega arith) c.requires.high, c.requires.few)

pub overflow_add-first-in-loop-before : goal.overflow_add-first-in-loop-before
overflow_add-first-in-loop-before c =
    omega (arith, place_high c.args.first c.args.stride c.args.count (c.loop-before.before - 1) (length c.args.array.now.items) (omega arith) c.requires.high, c.requires.few)

-- the fold from this item on is the result of `two`
two_gives : (c : After-two)
    → folded (dyadic_on_items c.args.function) (drop (c.loop-before.before - 1) (strided (fill c.args.array.now.item_type) c.args.array.now.items (c.args.first - 1) c.args.stride c.args.count)) ≡ c.two.result
two_gives c =
    let a = c.args.array.now in
    let d = fill a.item_type in
    let f = dyadic_on_items c.args.function in
    let j = c.loop-before.before - 1 in
    let e : c.loop-before.before ≡ j + 1 = let test = c.loop-before-test.true in omega arith in
    let later = subst (λ k. folded f (drop k (strided d a.items (c.args.first - 1) c.args.stride c.args.count)) ≡ Ok c.loop-before.result) e c.loop-before.invariant.folded in
    strided_more d a.items f (c.args.first - 1) c.args.stride c.args.count j c.loop-before.result (omega (arith, c.loop-before.invariant.below)) later
    ∙ ap (λ x. f x c.loop-before.result) (sym (c.item.ensures.is ∙ ap (λ m. get_or a.items m d) (omega (arith, c.requires.low)))) ∙ sym c.two.ensures.is

pub returns-in_err-result-clause-is : goal.returns-in_err-result-clause-is
returns-in_err-result-clause-is c =
    let xs = strided (fill c.args.array.now.item_type) c.args.array.now.items (c.args.first - 1) c.args.stride c.args.count in
    let long = length-strided (fill c.args.array.now.item_type) c.args.array.now.items (c.args.first - 1) c.args.stride c.args.count in
    passed_on _ _ c.from_residual.ensures
    ∙ sym (some_folded c.args.function xs (omega (arith, c.requires.some, long))
    ∙ error_stands _ xs (c.loop-before.before - 1) _ (omega (arith, c.loop-before.invariant.below)) (two_gives (goal.at.returns-in_err-result-clause-is c).After-two ∙ c.in_err-result.was))

pub loop-before-preserved : goal.loop-before-preserved
loop-before-preserved c = record {
  folded = two_gives (goal.at.loop-before-preserved c).After-two ∙ c.in_ok-result.was;
  below = omega (arith, c.loop-before.invariant.below);
  typed_last = λ h. absurd (omega (arith, c.loop-before.invariant.below));
  typed = λ h. c.in_ok-result.ensures.typed;
}

pub returns-clause-is : goal.returns-clause-is
returns-clause-is c =
    let d = fill c.args.array.now.item_type in
    let from = c.args.first - 1 in
    let xs = strided d c.args.array.now.items from c.args.stride c.args.count in
    let long = length-strided d c.args.array.now.items from c.args.stride c.args.count in
    let none : c.loop-before.before ≡ 0 = omega arith in
    sym (some_folded c.args.function xs (omega arith) ∙ subst (λ j. folded (dyadic_on_items c.args.function) (drop j xs) ≡ Ok c.loop-before.result) none c.loop-before.invariant.folded)
