use Rattle.{std.proofs.Common.{rules, ◌∙◌, ◌≤◌, ap, get_or, arith}, scan_fns.proofs.Scanned.{characters_fail}}
use Rattle.scan_fns.proofs.scan.Scan.form.Goals as goal

pub returns-then-not-counts_as_numbers : goal.returns-then-not-counts_as_numbers
returns-then-not-counts_as_numbers c =
    let b = c.args.array.now in
    let many : 2 ≤ get_or b.shape c.axis_at.result 0 = omega (arith, ap (λ xs. get_or xs c.axis_at.result 0) (c.deref.ensures ∙ c.shape-axes.ensures.is)) in
    characters_fail c.args.self.along b c.axis_at.result (search rules) (search rules) (search rules) many (search rules)
