use Rattle.{std.proofs.Common.{subst}, function_names.specs.declared.scalar.Scalar2.TheVariants.{Plus as Sum}}
use Rattle.item_fns.{specs.Numbers.{dyadic_on_numbers}, specs.NumberLists.{IsListAnswerTo}, specs.Folds.{folded}}
use Rattle.scan_fns.{specs.LinearScan.{scanned}, proofs.Errors.{fault_passed}, proofs.RunningSums.{greatest_leaves, least_leaves, sums_stay}}
use Rattle.reduce_fns.{specs.LeftFolds.{folded_left}, proofs.Endings.{greatest_step, least_step}}
use Rattle.scan_fns.proofs.linear_scan.running_sums.Goals as goal

pub returns-in_err-running-clause-is : goal.returns-in_err-running-clause-is
returns-in_err-running-clause-is c =
    let zs = c.args.lines.now.numbers.now in
    let s = c.args.lines.now.stride in
    let n = c.args.lines.now.count in
    fault_passed (folded_left greatest_step) zs s n (scanned (folded (dyadic_on_numbers Sum)) zs s n) c.in_err-running.field-0.0 _
    (λ k h. greatest_leaves zs s n c.args.lines.now.apart c.args.lines.now.some k h) c.in_err-running.ensures.read c.from_residual-in_err-running.ensures

pub returns-in_err-running-2-clause-is : goal.returns-in_err-running-2-clause-is
returns-in_err-running-2-clause-is c =
    let zs = c.args.lines.now.numbers.now in
    let s = c.args.lines.now.stride in
    let n = c.args.lines.now.count in
    fault_passed (folded_left least_step) zs s n (scanned (folded (dyadic_on_numbers Sum)) zs s n) c.in_err-running-2.field-0.0 _
    (λ k h. least_leaves zs s n c.args.lines.now.apart c.args.lines.now.some k h) c.in_err-running-2.ensures.read c.from_residual-in_err-running-2.ensures

pub returns-clause-is : goal.returns-clause-is
returns-clause-is c =
    subst (λ w. IsListAnswerTo w c.running-3.result)
    (sums_stay c.args.lines.now.numbers.now c.args.lines.now.stride c.args.lines.now.count c.args.lines.now.apart c.args.lines.now.some _ _ c.in_ok-running.ensures.read c.in_ok-running.ensures.is c.in_ok-running-2.ensures.is)
    c.running-3.ensures.is
