use Rattle.{std.proofs.Common.{sym, subst}, apl_expr.specs.declared.functions.Function2.{Function2}}
use Rattle.formula_core.specs.Rules.{with_change, both_rule, IsRefreshedBy}
use Rattle.formula_core.proofs.refreshing.Operation.of_both.Goals as goal

pub returns-in-Some-clause-refreshed : goal.returns-in-Some-clause-refreshed
returns-in-Some-clause-refreshed c =
    subst (λ (f : Function2). IsRefreshedBy (both_rule f) c.args.self.now.seen.now c.args.self.now.moved.now c.args.self.now.held.now c.args.meter.now.ticks c.by.new.meter.ticks (with_change c.by.new.change c.by.result)) (sym c.in-Some.ensures) c.by.ensures.refreshed
