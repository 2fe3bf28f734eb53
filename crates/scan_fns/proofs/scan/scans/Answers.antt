use Rattle.{std.proofs.Common.{◌∙◌, ap, sym, Ok, Global}, arrays_core.{specs.declared.item.ItemType.TheVariants.{Nums}, specs.Arrays.{with_items}}}
use Rattle.{item_fns.{specs.Numbers.{dyadic_on_numbers}, specs.NumberLists.{number_items}}, scan_fns.{specs.LinearScan.{scans_of}, proofs.Errors.{array_fault}}}
use Rattle.scan_fns.proofs.scan.scans.Goals as goal

pub returns-in_err-folds : goal.returns-in_err-folds
returns-in_err-folds c =
    array_fault Global (scans_of (dyadic_on_numbers c.args.function) c.args.lines.now) c.args.shape.now.items c.in_err-folds.field-0.0 _ c.in_err-folds.ensures.is c.from_residual.ensures

pub returns : goal.returns
returns c =
    ap (λ r. with_items Nums c.args.shape.now.items (number_items r)) c.in_ok-folds.ensures.is
    ∙ ap Ok (sym c.in_ok-from_numbers.ensures)
