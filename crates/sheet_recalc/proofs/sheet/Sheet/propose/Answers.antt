use Rattle.std.{proofs.Common.{◌∙◌, refl, sym, ap, subst, arith, ⊎_elim}, specs.Map.{keys_of}, proofs.lemmas.Result.{err_from_is_err_and}}
use Rattle.dep_order.specs.Reachability.{IsAcyclic}
use Rattle.sheet_recalc.{specs.Names.{SheetValue, Refers}, specs.Tables.{Tables}, specs.Changes.{CannotBecome}, specs.Costs.{IsStepCount}, specs.Planning.{IsProposalAt}, specs.ProposedSheet.{names_with}, specs.Pending.{IsBegunOn, IsProposedOn, names_after}, specs.declared.pending.Pending.{Pending}}
use Rattle.sheet_recalc.specs.declared.budget.Budget.TheVariants.{One}
use Rattle.sheet_recalc.proofs.sheet.Sheet.propose.Goals as goal

pub begun-requires-clause-proposal : goal.begun-requires-clause-proposal
begun-requires-clause-proposal c =
    subst (λ (t : Tables). IsProposalAt t.entries.entries c.args.name c.args.proposal) (sym (ap (λ (s : SheetValue). s.tables) c.self.view_is)) c.requires.1.fits

pub returns-in_err-begun-clause-refused : goal.returns-in_err-begun-clause-refused
returns-in_err-begun-clause-refused c =
    let cause = c.in_err-begun.field-0.0 in
    let p = err_from_is_err_and c.from_residual.result c.from_residual.ensures.1 in
    let why = subst (λ (s : SheetValue). CannotBecome s.names (names_with s.names c.args.name c.args.proposal) c.args.name cause) c.self.view_is c.in_err-begun.ensures.refused in
    let acyclic = subst (λ (s : SheetValue). IsAcyclic (Refers s.names)) c.self.view_is c.self.invariant.live.sheet.acyclic in
    rw (p.1, p.2) (λ change asked. asked.refuses acyclic cause why)

pub run-requires-clause-way : goal.run-requires-clause-way
run-requires-clause-way c = (c.args.meter.ticks, _, c.in_ok-begun.ensures.way c.args.meter.ticks (sym c.ticks-spent.ensures))

pub returns-clause-ok : goal.returns-clause-ok
returns-clause-ok c = λ change asked.
    let begun = c.in_ok-begun.ensures in
    let t : Tables = record { entries = c.self.inside.entries; users = c.self.inside.users } in
    let same = ap (λ (s : SheetValue). s.tables) c.self.view_is in
    let base = c.args.meter.ticks in
    let even = c.ticks-spent.ensures in
    let left = c.functions_in-left.result in
    let k = c.run.ensures.way base _ (begun.way base (sym even)) in
    let steps = c.functions_in-left.ensures ∙ k.2.1 in
    let p : Pending = record { name = c.args.name; proposal = c.args.proposal; plans = c.run.new.plans; growth = c.in_ok-growth.growth; left = left; budget = One; ticks = c.ticks-spent.result; meter = c.run.new.meter } in
    let now : IsBegunOn t p base = record {
      proposed = begun.proposed;
      kept = begun.can.kept;
      sheet = begun.can.sheet;
      place = c.in_ok-growth.ensures;
      functions = k.0;
      way = k.1;
      paid = (steps, k.2.2 ∙ sym even);
      end = λ none. ⊎_elim (λ all. all) (λ e. absurd (omega (arith, e.1 base k.0 k.1, steps, none))) c.in_ok-run.ensures.end;
      small = c.ticks-spent.type_inv;
    } in
    let pending = asked.begins p (subst (λ (s : SheetValue). IsProposedOn s c.args.name c.args.proposal base p) c.self.view_is (record { names_are = refl; name_is = refl; proposal_is = refl; begun = now; room = begun.can.room })) in
    let count : IsStepCount (names_after t p) c.args.name left = record { found = keys_of c.begun.new.plans.found.entries; all = begun.all; steps_are = c.functions_in-left.ensures } in (
      pending,
      (
        names_after c.args.self.now.tables p,
        pending.accepts,
        subst (λ q. IsStepCount (names_after c.args.self.now.tables p) q left) pending.name_is (subst (λ (u : Tables). IsStepCount (names_after u p) c.args.name left) same count),
      ),
    )

pub returns-clause-between : goal.returns-clause-between
returns-clause-between c =
    let base = c.args.meter.ticks in
    let even = c.ticks-spent.ensures in
    let k = c.run.ensures.way base _ (c.in_ok-begun.ensures.way base (sym even)) in
    record { whole = refl; counted = even ∙ sym k.2.2 }
