use Rattle.std.{proofs.Common.{◌≡◌, ◌∙◌, ◌+◌, ap, sym, get_or, map, take, drop, arith, pos, to_z, of_z, w64, rules}, proofs.lemmas.List.{take_all}, proofs.lemmas.Int.{to_z-of_z}}
use Rattle.arrays_core.specs.Items.{all_or_first_error}
use Rattle.operator_fns.{specs.OuterResults.{outer_results, with_results}, proofs.OuterRows.{row_more, rows_left, row_failed, length-outer}}
use Rattle.reduce_fns.proofs.ListResults.{all_then, error_in_front, as_many_as}
use Rattle.operator_fns.proofs.outer_product.outer_numbers.Goals as goal

pub returns-in_err-push_row-clause-is : goal.returns-in_err-push_row-clause-is
returns-in_err-push_row-clause-is g c =
    let f = g.S.TwoNumbers.gives c.args.step.now in
    let xs = c.args.left.now in
    let ys = c.args.right.now in
    let k = c.loop-number.number-index in
    let x = get_or xs k (pos 0) in
    row_failed (Unit {0}) (with_results c.loop-number.numbers.items (map (f (to_z w64 (of_z w64 x))) ys)) (all_or_first_error (outer_results f xs ys)) c.push_row.new.row.items c.in_err-push_row.field-0.0 _
    (λ e failed.
    ap all_or_first_error (rows_left f ys xs (k + 1))
    ∙ error_in_front (outer_results f (take (k + 1) xs) ys) (outer_results f (drop (k + 1) xs) ys) e
    (ap all_or_first_error (row_more f ys xs k (omega arith)) ∙ all_then (outer_results f (take k xs) ys) (map (f x) ys) c.loop-number.numbers.items c.loop-number.invariant
    ∙ ap (λ z. with_results c.loop-number.numbers.items (map (f z) ys)) (sym (to_z-of_z w64 _ (search rules))) ∙ failed))
    c.in_err-push_row.ensures c.from_residual-in_err-push_row.ensures

pub loop-number-preserved : goal.loop-number-preserved
loop-number-preserved g c =
    let f = g.S.TwoNumbers.gives c.args.step.now in
    let x = get_or c.args.left.now c.loop-number.number-index (pos 0) in
    let same : to_z w64 (of_z w64 x) ≡ x = to_z-of_z w64 _ (search rules) in
    let rows = outer_results f (take c.loop-number.number-index c.args.left.now) c.args.right.now in
    ap all_or_first_error (row_more f c.args.right.now c.args.left.now c.loop-number.number-index (omega arith))
    ∙ all_then rows (map (f x) c.args.right.now) c.loop-number.numbers.items c.loop-number.invariant
    ∙ (rw same at c.in_ok-push_row.ensures)

pub returns-clause-long : goal.returns-clause-long
returns-clause-long g c =
    let f = g.S.TwoNumbers.gives c.args.step.now in
    let xs = c.args.left.now in
    let ys = c.args.right.now in
    let all : take c.loop-number.number-index xs ≡ xs = take_all c.loop-number.number-index xs (omega arith) in
    c.loop-number.numbers.ok.0
    ∙ as_many_as (outer_results f xs ys) c.loop-number.numbers.items (ap (λ zs. all_or_first_error (outer_results f zs ys)) (sym all) ∙ c.loop-number.invariant)
    ∙ length-outer f ys xs
