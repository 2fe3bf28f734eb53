use Rattle.std.{proofs.Common.{◌≡◌, ◌∙◌, sym, ap, subst}, proofs.lemmas.Bool.{false≢true}}
use Rattle.sheet_recalc.{specs.Names.{Names, SheetValue}, specs.Entries.{names_of}, specs.Tables.{Tables}, specs.Pending.{names_after}, specs.Changes.{Accepts}, specs.Costs.{HasCost, HasTicks}, proofs.Rebound.{live_after}, proofs.Stepped.{is_ready, whole_cost, whole_ticks, IsAllReady}}
use Rattle.sheet_recalc.proofs.sheet.Sheet.adopt.Goals as goal

pub make-requires-clause-ready : goal.make-requires-clause-ready
make-requires-clause-ready c =
    let h = c.requires.begun.1 in
    (subst (λ (t : Tables). IsAllReady t c.args.pending) (sym (ap (λ (s : SheetValue). s.tables) c.self.view_is)) (is_ready c.args.self.now.tables c.args.pending h.base h.begun c.requires.left)).ready

pub invariant_of-self : goal.invariant_of-self
invariant_of-self c =
    let h = c.requires.begun.1 in
    let before : Tables = record { entries = c.self.inside.entries; users = c.self.inside.users } in
    let all = subst (λ (t : Tables). IsAllReady t c.args.pending) (sym (ap (λ (s : SheetValue). s.tables) c.self.view_is)) (is_ready c.args.self.now.tables c.args.pending h.base h.begun c.requires.left) in
    record {
      live = live_after c.make.new.entries.entries c.make.new.users.entries (names_after before c.args.pending) c.make.ensures.names all.ready.sheet all.ready.kept c.make.ensures.tells c.make.ensures.used c.make.ensures.current;
      few = all.few;
      reached = λ is. absurd (false≢true is);
    }

pub returns-clause-made : goal.returns-clause-made
returns-clause-made c = λ change pending.
    let is : names_after c.args.self.now.tables c.args.pending ≡ names_of c.make.new.entries.entries = ap (λ (s : SheetValue). names_after s.tables c.args.pending) (sym c.self.view_is) ∙ sym c.make.ensures.names in
    subst (λ (ns : Names). Accepts c.args.self.now.names change ns) is pending.accepts

pub returns-clause-cost : goal.returns-clause-cost
returns-clause-cost c = λ change pending.
    let is : names_after c.args.self.now.tables c.args.pending ≡ names_of c.make.new.entries.entries = ap (λ (s : SheetValue). names_after s.tables c.args.pending) (sym c.self.view_is) ∙ sym c.make.ensures.names in
    subst (λ (ns : Names). HasCost c.args.self.now.names change ns c.args.pending.plans.cost) is (whole_cost c.args.self.now change c.args.pending pending c.requires.left)

pub returns-clause-computed : goal.returns-clause-computed
returns-clause-computed c = λ change pending.
    let is : names_after c.args.self.now.tables c.args.pending ≡ names_of c.make.new.entries.entries = ap (λ (s : SheetValue). names_after s.tables c.args.pending) (sym c.self.view_is) ∙ sym c.make.ensures.names in
    subst (λ (ns : Names). HasTicks c.args.self.now.names change ns c.args.pending.ticks) is (whole_ticks c.args.self.now change c.args.pending pending c.requires.left)
