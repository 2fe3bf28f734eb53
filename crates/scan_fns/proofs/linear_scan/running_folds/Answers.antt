use Rattle.{std.proofs.Common.{◌≡◌, ap, length, pos, subst}, arrays_core.specs.Items.{all_or_first_error}}
use Rattle.item_fns.{specs.NumberLists.{IsListAnswerTo}, specs.Folds.{folded}}
use Rattle.scan_fns.{specs.LinearScan.{run_to, scanned}, proofs.Associates.{left_is_right}}
use Rattle.reduce_fns.{specs.LeftFolds.{folded_left}, proofs.Firsts.{same_rules}}
use Rattle.scan_fns.proofs.linear_scan.running_folds.Goals as goal

pub returns-clause-is : goal.returns-clause-is
returns-clause-is g c =
    let f = g.S.TwoNumbers.gives c.args.step.now in
    let zs = c.args.lines.now.numbers.now in
    let same : scanned (folded_left f) zs c.args.lines.now.stride c.args.lines.now.count ≡ scanned (folded f) zs c.args.lines.now.stride c.args.lines.now.count =
    ap all_or_first_error (same_rules _ _ (length zs) (λ k below. left_is_right f c.requires (run_to (pos 0) zs c.args.lines.now.stride c.args.lines.now.count k))) in
    subst (λ w. IsListAnswerTo w c.running.result) same c.running.ensures.is
