use Rattle.std.proofs.Common.{◌≡◌, ◌∙◌, ◌+◌, ◌-◌, ◌≤◌, ◌∷◌, [], ap, sym, length, arith, Ok}
use Rattle.arrays_core.{specs.declared.item.ItemType.TheVariants.{Nums}, specs.Arrays.{with_items}, specs.Limits.{longest_axis}}
use Rattle.item_fns.{specs.Numbers.{dyadic_on_numbers}, specs.NumberLists.{number_items}}
use Rattle.scan_fns.{specs.LinearScan.{folds_from}, proofs.ScannedLine.{folds_from_long, vector_is}}
use Rattle.scan_fns.proofs.scan.later_vector.Goals as goal

pub returns-in-Ok : goal.returns-in-Ok
returns-in-Ok c =
    let f = dyadic_on_numbers c.args.function in
    let zs = c.args.numbers.now in
    let first = c.args.first in
    let folds = c.in-Ok.folds.items in
    let made : folds_from f zs first ≡ Ok folds = rw c.in-Ok.is at c.in_ok-later.ensures in
    let few : length zs + 1 - first ≤ longest_axis = omega (arith, c.requires.few, c.requires.low) in
    rw (ap (λ r. with_items Nums ((length zs + 1 - first) ∷ []) (number_items r)) made ∙ sym (vector_is folds _ (folds_from_long f zs folds first made) few)) c.vector.ensures
