use Rattle.std.{proofs.Common.{ℕ, List, [], Option, ◌∙◌, sym, ap, subst, refl, None, arith}, specs.List.{Contains}, specs.Map.{keys_of}, specs.Option.{option_map, option_map_or}}
use Rattle.sheet_recalc.{specs.Names.{Binding, referred}, specs.Meaning.{val}, specs.Entries.{names_of, binding_of}, specs.ProposedSheet.{outline_of, own_entry, proposed_names, proposed_references}, specs.declared.plans.Plans.{Plans}, proofs.Forward.{first_way}, proofs.NameEquality.{equal-true}}
use Rattle.sheet_recalc.{proofs.Rebound.{reaching_new, referred_refers}, proofs.Readied.{references_made, ready_acyclic, ready_proposed, ready_affected, ready_names, ready_all, ready_cost}, proofs.Binding.{rebound_own}}
use Rattle.sheet_recalc.proofs.planning.begun.Goals as goal

pub first_found-requires : goal.first_found-requires
first_found-requires c = equal-true

pub cycle_through-requires : goal.cycle_through-requires
cycle_through-requires c =
    let o = outline_of c.args.proposed.now in
    let f = c.in_ok-reach.ensures in
    let b = option_map binding_of (own_entry o) in
    let hit = c.in-Some.ensures in
    let referred = c.references.ensures ∙ (sym (references_made (val (names_of o.entries) o.name) o.proposal) ∙ ap (λ (d : Option Binding). option_map_or referred d []) (sym (rebound_own (names_of o.entries) o.name b))) in
    record {
      reaching = reaching_new o.entries c.args.users.now.entries c.requires.live o.name b (keys_of c.reach.new.found.entries) f.closed f.named f.sound f.distinct;
      refers = referred_refers (proposed_names o) o.name c.in-Some.reference (subst (λ (rs : List (List ℕ)). Contains rs c.in-Some.reference) referred hit.0);
      hit = hit.1;
    }

pub returns-then-not-has_room-clause-refused : goal.returns-then-not-has_room-clause-refused
returns-then-not-has_room-clause-refused c =
    let o = outline_of c.args.proposed.now in
    let f = c.in_ok-reach.ensures in
    let apart = λ (d : List ℕ) (stands : Contains (proposed_references o.proposal) d). c.in_default.ensures d (subst (λ (rs : List (List ℕ)). Contains rs d) (sym c.references.ensures) stands) in
    (ready_acyclic o c.args.users.now.entries c.requires.live (keys_of c.reach.new.found.entries) f.closed f.named f.sound f.distinct apart, rw c.if-not-has_room.true at c.has_room.ensures)

pub returns-clause-way : goal.returns-clause-way
returns-clause-way c = λ base even.
    let o = outline_of c.args.proposed.now in
    let f = c.in_ok-reach.ensures in
    let keys = keys_of c.reach.new.found.entries in
    let users = c.args.users.now.entries in
    let live = c.requires.live in
    let apart = λ (d : List ℕ) (stands : Contains (proposed_references o.proposal) d). c.in_default.ensures d (subst (λ (rs : List (List ℕ)). Contains rs d) (sym c.references.ensures) stands) in
    let ready = ready_proposed o users live keys f.closed f.named f.sound f.distinct apart c.requires.proposal c.shown_is_sound.ensures in
    let affected = ready_affected o users live keys f.closed f.named f.sound f.distinct apart in
    let costs = ready_cost o users live keys f.closed f.named f.sound f.distinct apart in
    let plans : Plans = record { found = c.reach.new.found; waiting = c.len-plans.result; current = None; cost = c.args.spent; places = c.resize.new.self } in
    first_way o ready base plans c.len-plans.ensures.len refl (sym even) (omega (arith, even, c.ranges.spent.fits)) f.distinct affected f.none costs

pub returns-clause-can : goal.returns-clause-can
returns-clause-can c =
    let o = outline_of c.args.proposed.now in
    let f = c.in_ok-reach.ensures in
    let apart = λ (d : List ℕ) (stands : Contains (proposed_references o.proposal) d). c.in_default.ensures d (subst (λ (rs : List (List ℕ)). Contains rs d) (sym c.references.ensures) stands) in
    ready_names o c.args.users.now.entries c.requires.live (keys_of c.reach.new.found.entries) f.closed f.named f.sound f.distinct apart (rw c.if-not-has_room.false at c.has_room.ensures)

pub returns-clause-proposed : goal.returns-clause-proposed
returns-clause-proposed c =
    let o = outline_of c.args.proposed.now in
    let f = c.in_ok-reach.ensures in
    let apart = λ (d : List ℕ) (stands : Contains (proposed_references o.proposal) d). c.in_default.ensures d (subst (λ (rs : List (List ℕ)). Contains rs d) (sym c.references.ensures) stands) in
    ready_proposed o c.args.users.now.entries c.requires.live (keys_of c.reach.new.found.entries) f.closed f.named f.sound f.distinct apart c.requires.proposal c.shown_is_sound.ensures

pub returns-clause-all : goal.returns-clause-all
returns-clause-all c =
    let o = outline_of c.args.proposed.now in
    let f = c.in_ok-reach.ensures in
    let apart = λ (d : List ℕ) (stands : Contains (proposed_references o.proposal) d). c.in_default.ensures d (subst (λ (rs : List (List ℕ)). Contains rs d) (sym c.references.ensures) stands) in
    ready_all o c.args.users.now.entries c.requires.live (keys_of c.reach.new.found.entries) f.closed f.named f.sound f.distinct apart
