use Rattle.std.proofs.Common.{◌∙◌, ap, sym, subst}
use Rattle.apl_expr.{specs.declared.functions.Function1.{Function1}, specs.declared.functions.Function1.TheVariants.{Monad}}
use Rattle.formula_core.specs.Rules.{with_change, right_rule, IsRefreshedBy}
use Rattle.formula_core.proofs.refreshing.Operation.of_any_right.Goals as goal

pub returns-in-Scalar-clause-refreshed : goal.returns-in-Scalar-clause-refreshed
returns-in-Scalar-clause-refreshed c =
    subst (λ (f : Function1). IsRefreshedBy (right_rule f) c.args.self.now.seen.now c.args.self.now.moved.now c.args.self.now.held.now c.args.meter.now.ticks c.by.new.meter.ticks (with_change c.by.new.change c.by.result)) (sym (c.in-Monad.is ∙ ap Monad c.in-Scalar.is)) c.by.ensures.refreshed

pub returns-in-Ravel-clause-refreshed : goal.returns-in-Ravel-clause-refreshed
returns-in-Ravel-clause-refreshed c =
    subst (λ (f : Function1). IsRefreshedBy (right_rule f) c.args.self.now.seen.now c.args.self.now.moved.now c.args.self.now.held.now c.args.meter.now.ticks c.by-in-Ravel.new.meter.ticks (with_change c.by-in-Ravel.new.change c.by-in-Ravel.result)) (sym (c.in-Monad.is ∙ ap Monad c.in-Ravel.is)) c.by-in-Ravel.ensures.refreshed

pub returns-in-Transpose-clause-refreshed : goal.returns-in-Transpose-clause-refreshed
returns-in-Transpose-clause-refreshed c =
    subst (λ (f : Function1). IsRefreshedBy (right_rule f) c.args.self.now.seen.now c.args.self.now.moved.now c.args.self.now.held.now c.args.meter.now.ticks c.by-in-Transpose.new.meter.ticks (with_change c.by-in-Transpose.new.change c.by-in-Transpose.result)) (sym (c.in-Monad.is ∙ ap Monad c.in-Transpose.is)) c.by-in-Transpose.ensures.refreshed

pub returns-in-Shape-clause-refreshed : goal.returns-in-Shape-clause-refreshed
returns-in-Shape-clause-refreshed c =
    subst (λ (f : Function1). IsRefreshedBy (right_rule f) c.args.self.now.seen.now c.args.self.now.moved.now c.args.self.now.held.now c.args.meter.now.ticks c.by-in-Shape.new.meter.ticks (with_change c.by-in-Shape.new.change c.by-in-Shape.result)) (sym (c.in-Monad.is ∙ ap Monad c.in-Shape.is)) c.by-in-Shape.ensures.refreshed

pub returns-in-Iota-clause-refreshed : goal.returns-in-Iota-clause-refreshed
returns-in-Iota-clause-refreshed c =
    subst (λ (f : Function1). IsRefreshedBy (right_rule f) c.args.self.now.seen.now c.args.self.now.moved.now c.args.self.now.held.now c.args.meter.now.ticks c.by-in-Iota.new.meter.ticks (with_change c.by-in-Iota.new.change c.by-in-Iota.result)) (sym (c.in-Monad.is ∙ ap Monad c.in-Iota.is)) c.by-in-Iota.ensures.refreshed

pub returns-in-Reverse-clause-refreshed : goal.returns-in-Reverse-clause-refreshed
returns-in-Reverse-clause-refreshed c =
    subst (λ (f : Function1). IsRefreshedBy (right_rule f) c.args.self.now.seen.now c.args.self.now.moved.now c.args.self.now.held.now c.args.meter.now.ticks c.by-in-Reverse.new.meter.ticks (with_change c.by-in-Reverse.new.change c.by-in-Reverse.result)) (sym (c.in-Monad.is ∙ ap Monad c.in-Reverse.is)) c.by-in-Reverse.ensures.refreshed

pub returns-in-Reduce-clause-refreshed : goal.returns-in-Reduce-clause-refreshed
returns-in-Reduce-clause-refreshed c =
    subst (λ (f : Function1). IsRefreshedBy (right_rule f) c.args.self.now.seen.now c.args.self.now.moved.now c.args.self.now.held.now c.args.meter.now.ticks c.by-in-Reduce.new.meter.ticks (with_change c.by-in-Reduce.new.change c.by-in-Reduce.result)) (sym c.in-Reduce.is) c.by-in-Reduce.ensures.refreshed

pub returns-in-Scan-clause-refreshed : goal.returns-in-Scan-clause-refreshed
returns-in-Scan-clause-refreshed c =
    subst (λ (f : Function1). IsRefreshedBy (right_rule f) c.args.self.now.seen.now c.args.self.now.moved.now c.args.self.now.held.now c.args.meter.now.ticks c.by-in-Scan.new.meter.ticks (with_change c.by-in-Scan.new.change c.by-in-Scan.result)) (sym c.in-Scan.is) c.by-in-Scan.ensures.refreshed
