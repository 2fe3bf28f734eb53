use Rattle.std.proofs.Common.{◌∙◌, ap, sym, subst}
use Rattle.apl_expr.{specs.declared.functions.Function2.{Function2}, specs.declared.functions.Function2.TheVariants.{Dyad}}
use Rattle.formula_core.specs.Rules.{with_change, both_rule, IsRefreshedBy}
use Rattle.formula_core.proofs.refreshing.Operation.of_any_both.Goals as goal

pub returns-in-Scalar-clause-refreshed : goal.returns-in-Scalar-clause-refreshed
returns-in-Scalar-clause-refreshed c =
    subst (λ (f : Function2). IsRefreshedBy (both_rule f) c.args.self.now.seen.now c.args.self.now.moved.now c.args.self.now.held.now c.args.meter.now.ticks c.by.new.meter.ticks (with_change c.by.new.change c.by.result)) (sym (c.in-Dyad.is ∙ ap Dyad c.in-Scalar.is)) c.by.ensures.refreshed

pub returns-in-Reshape-clause-refreshed : goal.returns-in-Reshape-clause-refreshed
returns-in-Reshape-clause-refreshed c =
    subst (λ (f : Function2). IsRefreshedBy (both_rule f) c.args.self.now.seen.now c.args.self.now.moved.now c.args.self.now.held.now c.args.meter.now.ticks c.by-in-Reshape.new.meter.ticks (with_change c.by-in-Reshape.new.change c.by-in-Reshape.result)) (sym (c.in-Dyad.is ∙ ap Dyad c.in-Reshape.is)) c.by-in-Reshape.ensures.refreshed

pub returns-in-Take-clause-refreshed : goal.returns-in-Take-clause-refreshed
returns-in-Take-clause-refreshed c =
    subst (λ (f : Function2). IsRefreshedBy (both_rule f) c.args.self.now.seen.now c.args.self.now.moved.now c.args.self.now.held.now c.args.meter.now.ticks c.by-in-Take.new.meter.ticks (with_change c.by-in-Take.new.change c.by-in-Take.result)) (sym (c.in-Dyad.is ∙ ap Dyad c.in-Take.is)) c.by-in-Take.ensures.refreshed

pub returns-in-Drop-clause-refreshed : goal.returns-in-Drop-clause-refreshed
returns-in-Drop-clause-refreshed c =
    subst (λ (f : Function2). IsRefreshedBy (both_rule f) c.args.self.now.seen.now c.args.self.now.moved.now c.args.self.now.held.now c.args.meter.now.ticks c.by-in-Drop.new.meter.ticks (with_change c.by-in-Drop.new.change c.by-in-Drop.result)) (sym (c.in-Dyad.is ∙ ap Dyad c.in-Drop.is)) c.by-in-Drop.ensures.refreshed

pub returns-in-Transpose-clause-refreshed : goal.returns-in-Transpose-clause-refreshed
returns-in-Transpose-clause-refreshed c =
    subst (λ (f : Function2). IsRefreshedBy (both_rule f) c.args.self.now.seen.now c.args.self.now.moved.now c.args.self.now.held.now c.args.meter.now.ticks c.by-in-Transpose.new.meter.ticks (with_change c.by-in-Transpose.new.change c.by-in-Transpose.result)) (sym (c.in-Dyad.is ∙ ap Dyad c.in-Transpose.is)) c.by-in-Transpose.ensures.refreshed

pub returns-in-IndexOf-clause-refreshed : goal.returns-in-IndexOf-clause-refreshed
returns-in-IndexOf-clause-refreshed c =
    subst (λ (f : Function2). IsRefreshedBy (both_rule f) c.args.self.now.seen.now c.args.self.now.moved.now c.args.self.now.held.now c.args.meter.now.ticks c.by-in-IndexOf.new.meter.ticks (with_change c.by-in-IndexOf.new.change c.by-in-IndexOf.result)) (sym (c.in-Dyad.is ∙ ap Dyad c.in-IndexOf.is)) c.by-in-IndexOf.ensures.refreshed

pub returns-in-Member-clause-refreshed : goal.returns-in-Member-clause-refreshed
returns-in-Member-clause-refreshed c =
    subst (λ (f : Function2). IsRefreshedBy (both_rule f) c.args.self.now.seen.now c.args.self.now.moved.now c.args.self.now.held.now c.args.meter.now.ticks c.by-in-Member.new.meter.ticks (with_change c.by-in-Member.new.change c.by-in-Member.result)) (sym (c.in-Dyad.is ∙ ap Dyad c.in-Member.is)) c.by-in-Member.ensures.refreshed

pub returns-in-Encode-clause-refreshed : goal.returns-in-Encode-clause-refreshed
returns-in-Encode-clause-refreshed c =
    subst (λ (f : Function2). IsRefreshedBy (both_rule f) c.args.self.now.seen.now c.args.self.now.moved.now c.args.self.now.held.now c.args.meter.now.ticks c.by-in-Encode.new.meter.ticks (with_change c.by-in-Encode.new.change c.by-in-Encode.result)) (sym (c.in-Dyad.is ∙ ap Dyad c.in-Encode.is)) c.by-in-Encode.ensures.refreshed

pub returns-in-Decode-clause-refreshed : goal.returns-in-Decode-clause-refreshed
returns-in-Decode-clause-refreshed c =
    subst (λ (f : Function2). IsRefreshedBy (both_rule f) c.args.self.now.seen.now c.args.self.now.moved.now c.args.self.now.held.now c.args.meter.now.ticks c.by-in-Decode.new.meter.ticks (with_change c.by-in-Decode.new.change c.by-in-Decode.result)) (sym (c.in-Dyad.is ∙ ap Dyad c.in-Decode.is)) c.by-in-Decode.ensures.refreshed

pub returns-in-Catenate-clause-refreshed : goal.returns-in-Catenate-clause-refreshed
returns-in-Catenate-clause-refreshed c =
    subst (λ (f : Function2). IsRefreshedBy (both_rule f) c.args.self.now.seen.now c.args.self.now.moved.now c.args.self.now.held.now c.args.meter.now.ticks c.by-in-Catenate.new.meter.ticks (with_change c.by-in-Catenate.new.change c.by-in-Catenate.result)) (sym (c.in-Dyad.is ∙ ap Dyad c.in-Catenate.is)) c.by-in-Catenate.ensures.refreshed

pub returns-in-Rotate-clause-refreshed : goal.returns-in-Rotate-clause-refreshed
returns-in-Rotate-clause-refreshed c =
    subst (λ (f : Function2). IsRefreshedBy (both_rule f) c.args.self.now.seen.now c.args.self.now.moved.now c.args.self.now.held.now c.args.meter.now.ticks c.by-in-Rotate.new.meter.ticks (with_change c.by-in-Rotate.new.change c.by-in-Rotate.result)) (sym (c.in-Dyad.is ∙ ap Dyad c.in-Rotate.is)) c.by-in-Rotate.ensures.refreshed

pub returns-in-Replicate-clause-refreshed : goal.returns-in-Replicate-clause-refreshed
returns-in-Replicate-clause-refreshed c =
    subst (λ (f : Function2). IsRefreshedBy (both_rule f) c.args.self.now.seen.now c.args.self.now.moved.now c.args.self.now.held.now c.args.meter.now.ticks c.by-in-Replicate.new.meter.ticks (with_change c.by-in-Replicate.new.change c.by-in-Replicate.result)) (sym (c.in-Dyad.is ∙ ap Dyad c.in-Replicate.is)) c.by-in-Replicate.ensures.refreshed

pub returns-in-Outer-clause-refreshed : goal.returns-in-Outer-clause-refreshed
returns-in-Outer-clause-refreshed c =
    subst (λ (f : Function2). IsRefreshedBy (both_rule f) c.args.self.now.seen.now c.args.self.now.moved.now c.args.self.now.held.now c.args.meter.now.ticks c.by-in-Outer.new.meter.ticks (with_change c.by-in-Outer.new.change c.by-in-Outer.result)) (sym c.in-Outer.is) c.by-in-Outer.ensures.refreshed

pub returns-in-Inner-clause-refreshed : goal.returns-in-Inner-clause-refreshed
returns-in-Inner-clause-refreshed c =
    subst (λ (f : Function2). IsRefreshedBy (both_rule f) c.args.self.now.seen.now c.args.self.now.moved.now c.args.self.now.held.now c.args.meter.now.ticks c.by-in-Inner.new.meter.ticks (with_change c.by-in-Inner.new.change c.by-in-Inner.result)) (sym c.in-Inner.is) c.by-in-Inner.ensures.refreshed
