use Rattle.{std.proofs.Common.{◌∙◌, sym}, scan_fns.proofs.NearTotals.{near_scanned}}
use Rattle.scan_fns.proofs.near_totals.near_totals.Goals as goal

pub returns-then-doubt-eq0-clause-is : goal.returns-then-doubt-eq0-clause-is
returns-then-doubt-eq0-clause-is c =
    let l = c.args.lines.now in
    sym (near_scanned c.args.turned l.numbers.now l.stride l.count l.apart l.some c.if-lines-gt-MOST_ITEMS.false (c.in_ok-results.ensures.near c.if-doubt-eq0.true))
    ∙ c.in_ok-results.ensures.is
