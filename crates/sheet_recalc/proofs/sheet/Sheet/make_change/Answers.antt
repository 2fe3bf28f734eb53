use Rattle.std.{proofs.Common.{◌≡◌, ◌∙◌, refl, sym, ap, subst}, proofs.lemmas.Result.{err_from_is_err_and}}
use Rattle.sheet_recalc.{specs.Names.{Names, SheetValue, Refers}, specs.Tables.{Tables}, specs.Entries.{names_of}, specs.Changes.{Accepts, CannotBecome}, specs.Costs.{HasCost, HasTicks}, specs.Planning.{IsProposalAt}, specs.ProposedSheet.{names_with}, specs.Pending.{IsBegunOn, IsProposedOn, names_after}}
use Rattle.sheet_recalc.{specs.declared.budget.Budget.TheVariants.{One}, specs.declared.pending.Pending.{Pending}, proofs.Live.{reach_kept, reached_after}, proofs.Rebound.{live_after}, proofs.Stepped.{at_once, is_ready, whole_cost, whole_ticks}}
use Rattle.dep_order.specs.Reachability.{IsAcyclic}
use Rattle.sheet_recalc.proofs.sheet.Sheet.make_change.Goals as goal

pub begun-requires-clause-proposal : goal.begun-requires-clause-proposal
begun-requires-clause-proposal c =
    subst (λ (t : Tables). IsProposalAt t.entries.entries c.args.name c.args.proposal) (sym (ap (λ (s : SheetValue). s.tables) c.self.view_is)) c.requires.1.fits

pub begun-requires-clause-known : goal.begun-requires-clause-known
begun-requires-clause-known c = λ yes. let known = c.keep_reach-is_known.ensures yes in c.self.invariant.reached known.0 c.args.name known.1

pub returns-in_err-begun-clause-refused : goal.returns-in_err-begun-clause-refused
returns-in_err-begun-clause-refused c =
    let cause = c.in_err-begun.field-0.0 in
    let p = err_from_is_err_and c.from_residual.result c.from_residual.ensures.1 in
    let why = subst (λ (s : SheetValue). CannotBecome s.names (names_with s.names c.args.name c.args.proposal) c.args.name cause) c.self.view_is c.in_err-begun.ensures.refused in
    let acyclic = subst (λ (s : SheetValue). IsAcyclic (Refers s.names)) c.self.view_is c.self.invariant.live.sheet.acyclic in
    rw (p.1, p.2) (λ change asked. asked.refuses acyclic cause why)

pub run-requires-clause-way : goal.run-requires-clause-way
run-requires-clause-way c = (c.args.meter.ticks, _, c.in_ok-begun.ensures.way c.args.meter.ticks (sym c.ticks-spent.ensures))

pub make-requires-clause-ready : goal.make-requires-clause-ready
make-requires-clause-ready c =
    let begun = c.in_ok-begun.ensures in
    let t : Tables = record { entries = c.self.inside.entries; users = c.self.inside.users } in
    let base = c.args.meter.ticks in
    let told = c.ticks-self-inside.ensures in
    let p : Pending =
    record { name = c.args.name; proposal = c.args.proposal; plans = c.run.new.plans; growth = c.in_ok-growth.growth; left = 0; budget = One; ticks = c.ticks-self-inside.result; meter = c.run.new.meter } in
    let now : IsBegunOn t p base =
    at_once t p base begun.proposed begun.can c.in_ok-growth.ensures c.run.new.budget (c.run.ensures.way base _ (begun.way base (sym c.ticks-spent.ensures))) c.in_ok-run.ensures.end refl refl told c.ticks-self-inside.type_inv in
    (is_ready t p base now refl).ready

pub invariant_of-self-2 : goal.invariant_of-self-2
invariant_of-self-2 c =
    let begun = c.in_ok-begun.ensures in
    let t : Tables = record { entries = c.self.inside.entries; users = c.self.inside.users } in
    let base = c.args.meter.ticks in
    let told = c.ticks-self-inside.ensures in
    let p : Pending =
    record { name = c.args.name; proposal = c.args.proposal; plans = c.run.new.plans; growth = c.in_ok-growth.growth; left = 0; budget = One; ticks = c.ticks-self-inside.result; meter = c.run.new.meter } in
    let now : IsBegunOn t p base =
    at_once t p base begun.proposed begun.can c.in_ok-growth.ensures c.run.new.budget (c.run.ensures.way base _ (begun.way base (sym c.ticks-spent.ensures))) c.in_ok-run.ensures.end refl refl told c.ticks-self-inside.type_inv in
    let all = is_ready t p base now refl in
    record {
      live = live_after c.make.new.entries.entries c.make.new.users.entries (names_after t p) c.make.ensures.names all.ready.sheet all.ready.kept c.make.ensures.tells c.make.ensures.used c.make.ensures.current;
      few = all.few;
      reached =
          reached_after c.make.new.users.entries c.args.name c.make.new.found.entries c.keep_reach-self-inside.result
          (λ yes.
          let known = c.keep_reach-self-inside.ensures yes in
          let edit = c.make.ensures.edit (sym c.is_edit-is_edit.ensures ∙ known.0) in
          let keys = edit.1.names ∙ c.run.ensures.keys in (
            known.1,
            reach_kept c.self.inside.users.entries c.make.new.users.entries c.args.name c.begun.new.plans.found.entries c.make.new.found.entries edit.0 keys edit.1.none begun.reached,
          ));
    }

pub returns-clause-made : goal.returns-clause-made
returns-clause-made c = λ change asked.
    let begun = c.in_ok-begun.ensures in
    let t : Tables = record { entries = c.self.inside.entries; users = c.self.inside.users } in
    let base = c.args.meter.ticks in
    let told = c.ticks-self-inside.ensures in
    let p : Pending =
    record { name = c.args.name; proposal = c.args.proposal; plans = c.run.new.plans; growth = c.in_ok-growth.growth; left = 0; budget = One; ticks = c.ticks-self-inside.result; meter = c.run.new.meter } in
    let now : IsBegunOn t p base =
    at_once t p base begun.proposed begun.can c.in_ok-growth.ensures c.run.new.budget (c.run.ensures.way base _ (begun.way base (sym c.ticks-spent.ensures))) c.in_ok-run.ensures.end refl refl told c.ticks-self-inside.type_inv in
    let s = c.args.self.now in
    let pending = asked.begins p (subst (λ (s : SheetValue). IsProposedOn s c.args.name c.args.proposal base p) c.self.view_is (record { names_are = refl; name_is = refl; proposal_is = refl; begun = now; room = begun.can.room })) in
    let is : names_after s.tables p ≡ names_of c.make.new.entries.entries = ap (λ (s : SheetValue). names_after s.tables p) (sym c.self.view_is) ∙ sym c.make.ensures.names in (
      subst (λ (ns : Names). Accepts s.names change ns) is pending.accepts,
      subst (λ (ns : Names). HasCost s.names change ns p.plans.cost) is (whole_cost s change p pending refl),
      subst (λ (ns : Names). HasTicks s.names change ns p.ticks) is (whole_ticks s change p pending refl),
    )
