use Rattle.{std.proofs.Common.{subst}, item_fns.specs.NumberLists.{IsListAnswerTo}, scan_fns.proofs.UnitProducts.{unit_products}}
use Rattle.scan_fns.proofs.unit_products.running_products.Goals as goal

pub returns-then-are_units-clause-is : goal.returns-then-are_units-clause-is
returns-then-are_units-clause-is c =
    subst (λ w. IsListAnswerTo w c.running.result)
    (unit_products c.args.lines.now.numbers.now c.args.lines.now.stride c.args.lines.now.count c.args.lines.now.apart c.args.lines.now.some (c.are_units.ensures c.if-are_units.true))
    c.running.ensures.is
