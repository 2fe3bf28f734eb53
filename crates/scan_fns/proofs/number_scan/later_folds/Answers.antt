use Rattle.std.proofs.Common.{◌≡◌, ◌∙◌, Global, Ok, Err, length, sym, subst}
use Rattle.item_fns.{specs.Numbers.{dyadic_on_numbers}, specs.NumberLists.{IsListAnswerTo}, specs.Folds.{folded}}
use Rattle.scan_fns.{specs.LinearScan.{scanned}, proofs.LaterFolds.{one_line, later_folds, later_fault}}
use Rattle.scan_fns.proofs.number_scan.later_folds.Goals as goal

pub returns-in-Ok : goal.returns-in-Ok
returns-in-Ok c =
    let f = dyadic_on_numbers c.args.function in
    let zs = c.args.numbers.now in
    let folds = c.in-Ok.folds in
    let line = one_line f c.one.result zs c.one.ensures.numbers c.one.ensures.stride c.one.ensures.count in
    let whole : scanned (folded f) zs 1 (length zs) ≡ Ok folds.items = sym line ∙ (rw c.in-Ok.is at c.number_folds.ensures.is) in
    rw (later_folds f zs folds.items c.args.first c.requires.low c.requires.high whole) (rw c.deref.ensures.value at c.behind.ensures)

pub returns-in-Err-2 : goal.returns-in-Err-2
returns-in-Err-2 c =
    let f = dyadic_on_numbers c.args.function in
    let zs = c.args.numbers.now in
    let line = one_line f c.one.result zs c.one.ensures.numbers c.one.ensures.stride c.one.ensures.count in
    let failed = subst (λ w. IsListAnswerTo {G = Global} w (Err c.in-Err.field-0)) line (rw c.in-Err.is at c.number_folds.ensures.is) in
    later_fault f zs c.args.first c.requires.low c.requires.high Global _ failed (c.may_fail.ensures c.if-may_fail.false)
