use Rattle.std.{proofs.Common.{◌≡◌, ◌∙◌, ap, sym, map, Ok, pos, length, subst}, specs.List.{range_with_len}}
use Rattle.arrays_core.{specs.Items.{all_or_first_error}, specs.Shapes.{size}, specs.Arrays.{with_items}, specs.declared.item.ItemType.TheVariants.{Nums}}
use Rattle.item_fns.{specs.Numbers.{dyadic_on_numbers}, specs.NumberLists.{number_items}}
use Rattle.operator_fns.{specs.RowByColumn.{cell, IsGridOf}, proofs.PlainGrids.{rows_inside, columns_inside}, proofs.grid.grid_products.Goals.{After-size-places}}
use Rattle.reduce_fns.{proofs.Placewise.{numbers_collected}, proofs.Firsts.{all_places}}
use Rattle.operator_fns.proofs.grid.grid_products.Goals as goal

fits : (c : After-size-places) → IsGridOf c.args.grid c.size-places.result (length c.args.left.now) (length c.args.right.now)
fits c = subst (λ n. IsGridOf c.args.grid n (length c.args.left.now) (length c.args.right.now)) (sym (c.size-places.ensures ∙ ap size c.as_slice.ensures)) c.requires.fits

pub fold_matrices-requires-clause-rows : goal.fold_matrices-requires-clause-rows
fold_matrices-requires-clause-rows c = rows_inside _ _ _ _ (fits (goal.at.fold_matrices-requires-clause-rows c).After-size-places) (c.is_plain.ensures c.if-not-is_plain.false)

pub fold_matrices-requires-clause-columns : goal.fold_matrices-requires-clause-columns
fold_matrices-requires-clause-columns c = columns_inside _ _ _ _ (fits (goal.at.fold_matrices-requires-clause-columns c).After-size-places) (c.is_plain.ensures c.if-not-is_plain.false)

pub returns-in_ok-from_numbers-in-Ok : goal.returns-in_ok-from_numbers-in-Ok
returns-in_ok-from_numbers-in-Ok c =
    let n = c.size-places.result in
    let shape = c.args.shape.now.items in
    let zs = c.in-Ok.folds in
    let places : n ≡ size shape = c.size-places.ensures ∙ ap size c.as_slice.ensures in
    let rule = cell (dyadic_on_numbers c.args.fold) (dyadic_on_numbers c.args.each) c.args.left.now c.args.right.now c.args.grid in
    let made : all_or_first_error (map rule (range_with_len 0 n)) ≡ Ok zs.items = all_places rule n zs.items (pos 0) (sym zs.ok.0 ∙ c.in-Ok.ensures.long) c.in-Ok.ensures.is in
    numbers_collected shape rule
    ∙ ap (λ r. with_items Nums shape (number_items r)) (ap (λ m. all_or_first_error (map rule (range_with_len 0 m))) (sym places) ∙ made)
    ∙ ap Ok (sym c.in_ok-from_numbers-in-Ok.ensures)
