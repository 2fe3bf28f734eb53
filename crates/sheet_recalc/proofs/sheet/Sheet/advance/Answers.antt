use Rattle.std.proofs.Common.{◌+◌, ◌≤◌, sym, ap, subst, arith}
use Rattle.sheet_recalc.{specs.Names.{SheetValue}, specs.Tables.{Tables}, specs.Planning.{IsProposed, IsOnTheWay}, specs.Pending.{outline_for}, proofs.Stepped.{between, cut_step, whole_step, step_rises, step_cost}}
use Rattle.sheet_recalc.proofs.sheet.Sheet.advance.Goals as goal

pub run-requires-clause-proposed : goal.run-requires-clause-proposed
run-requires-clause-proposed c =
    subst (λ (t : Tables). IsProposed (outline_for t c.args.pending.now)) (sym (ap (λ (s : SheetValue). s.tables) c.self.view_is)) c.requires.1.begun.proposed

pub run-requires-clause-way : goal.run-requires-clause-way
run-requires-clause-way c =
    let p = c.args.pending.now in
    let h = c.requires.1 in
    (h.base, h.begun.functions, subst (λ (t : Tables). IsOnTheWay (outline_for t p) h.base h.begun.functions p.plans p.meter.ticks) (sym (ap (λ (s : SheetValue). s.tables) c.self.view_is)) h.begun.way)

pub returns-in_err-run-clause-kept : goal.returns-in_err-run-clause-kept
returns-in_err-run-clause-kept c = λ change h.
    let t : Tables = record { entries = c.self.inside.entries; users = c.self.inside.users } in
    cut_step c.args.self.now t (ap (λ (s : SheetValue). s.tables) c.self.view_is) c.args.pending.now c.run.new.plans c.run.new.budget c.run.new.meter c.run.ensures.way (omega (arith, c.if-pending-eq0.false)) change h

pub returns-clause-kept : goal.returns-clause-kept
returns-clause-kept c = λ change h.
    let t : Tables = record { entries = c.self.inside.entries; users = c.self.inside.users } in
    whole_step c.args.self.now t (ap (λ (s : SheetValue). s.tables) c.self.view_is) c.args.pending.now c.run.new.plans c.run.new.budget c.run.new.meter c.run.ensures.way (omega (arith, c.if-pending-eq0.false)) change h c.in_ok-run.ensures.end
    c.ticks-pending.result c.ticks-pending.ensures c.ticks-pending.type_inv

pub returns-clause-ticks : goal.returns-clause-ticks
returns-clause-ticks c = λ some change h.
    let p = c.args.pending.now in
    let t : Tables = record { entries = c.self.inside.entries; users = c.self.inside.users } in
    let k = step_cost c.args.self.now t (ap (λ (s : SheetValue). s.tables) c.self.view_is) p c.run.new.plans c.run.new.budget c.run.new.meter c.run.ensures.way some change h c.in_ok-run.ensures.end in
    (k.0, k.1, subst (λ n. n ≤ p.ticks + k.0) (sym c.ticks-pending.ensures) k.2)

pub returns-clause-rises : goal.returns-clause-rises
returns-clause-rises c =
    let p = c.args.pending.now in
    let t : Tables = record { entries = c.self.inside.entries; users = c.self.inside.users } in
    let rises = step_rises c.args.self.now t (ap (λ (s : SheetValue). s.tables) c.self.view_is) p c.run.new.plans c.run.new.budget c.run.new.meter c.run.ensures.way (omega (arith, c.if-pending-eq0.false)) c.requires.0 c.requires.1 c.in_ok-run.ensures.end in
    omega (arith, rises, c.ticks-pending.ensures)

pub returns-then-pending-eq0-clause-between : goal.returns-then-pending-eq0-clause-between
returns-then-pending-eq0-clause-between c =
    let h = c.requires.1 in
    between c.args.self.now.tables c.args.pending.now h.base h.begun (omega (arith, c.if-pending-eq0.true))
