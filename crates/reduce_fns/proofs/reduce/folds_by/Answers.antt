use Rattle.std.{proofs.Common.{◌∙◌, ap, sym, map, Ok}, specs.List.{range_with_len}}
use Rattle.arrays_core.{specs.Items.{all_or_first_error}, specs.Arrays.{with_items}, specs.declared.item.ItemType.TheVariants.{Nums}}
use Rattle.{item_fns.specs.NumberLists.{number_items}, reduce_fns.{specs.AxisLines.{fold_at}, proofs.Placewise.{numbers_collected}}}
use Rattle.reduce_fns.proofs.reduce.folds_by.Goals as goal

pub returns-in_ok-from_numbers-in-Some : goal.returns-in_ok-from_numbers-in-Some
returns-in_ok-from_numbers-in-Some g c =
    let rule = fold_at (g.S.TwoNumbers.gives c.args.step.now) c.args.lines.now in
    numbers_collected c.args.shape.now.items rule
    ∙ ap (λ r. with_items Nums c.args.shape.now.items (number_items r)) (ap (λ n. all_or_first_error (map rule (range_with_len 0 n))) c.requires.shaped ∙ (rw c.in-Some.is at c.in_ok-folds.ensures.is))
    ∙ ap Ok (sym c.in_ok-from_numbers-in-Some.ensures)
