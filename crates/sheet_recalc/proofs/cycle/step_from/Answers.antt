use Rattle.std.{proofs.Common.{ℕ, List, sym, subst}, specs.List.{Contains}, specs.Map.{keys_of}}
use Rattle.sheet_recalc.{specs.ProposedSheet.{outline_of, proposed_names}, proofs.Cycles.{goes_on, goes_down}, proofs.Rebound.{referred_refers, refers_referred}}
use Rattle.sheet_recalc.proofs.cycle.step_from.Goals as goal

pub unreachable-requires : goal.unreachable-requires
unreachable-requires c =
    let o = outline_of c.args.proposed.now in
    let next = goes_on (proposed_names o) o.name (keys_of c.args.found.now.entries) c.requires.reaching c.args.from c.requires.hit c.requires.apart in
    let stands = refers_referred (proposed_names o) c.args.from next.0 next.1 in
    c.in-None.ensures next.0 (subst (λ (rs : List (List ℕ)). Contains rs next.0) (sym c.references_of.ensures) stands) next.2

pub returns-clause-refers : goal.returns-clause-refers
returns-clause-refers c =
    referred_refers (proposed_names (outline_of c.args.proposed.now)) c.args.from c.in-Some.next (subst (λ (rs : List (List ℕ)). Contains rs c.in-Some.next) c.references_of.ensures c.in-Some.ensures.0)

pub returns-clause-later : goal.returns-clause-later
returns-clause-later c =
    let o = outline_of c.args.proposed.now in
    goes_down (proposed_names o) o.name (keys_of c.args.found.now.entries) c.requires.reaching c.args.from c.in-Some.next c.requires.apart (returns-clause-refers c) c.in-Some.ensures.1
