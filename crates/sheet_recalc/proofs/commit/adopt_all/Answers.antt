use Rattle.std.proofs.Common.{◌∙◌, refl, arith}
use Rattle.sheet_recalc.{specs.Entries.{names_of}, proofs.Live.{taken_first, taken_next, current_at_end, nothing_at_end}}
use Rattle.sheet_recalc.proofs.commit.adopt_all.Goals as goal

pub loop-place-init : goal.loop-place-init
loop-place-init c = record {
  taken = taken_first (names_of c.args.entries.now.entries) c.args.entries.now.entries c.args.found.now.entries c.len-place.result c.len-place.ensures.len c.requires;
  keys = refl;
}

pub adopt_at-requires-clause-place : goal.adopt_at-requires-clause-place
adopt_at-requires-clause-place c = omega (arith, c.loop-place-test.true, c.loop-place.invariant.taken.within)

pub adopt_at-requires-clause-adopting : goal.adopt_at-requires-clause-adopting
adopt_at-requires-clause-adopting c = (names_of c.args.entries.now.entries, c.loop-place.invariant.taken.adopting)

pub loop-place-preserved : goal.loop-place-preserved
loop-place-preserved c =
    let names = names_of c.args.entries.now.entries in
    let before = c.loop-place.invariant.taken in
    let done = c.adopt_at.ensures in
    record {
      taken =
          taken_next names c.loop-place.entries.entries c.adopt_at.new.entries.entries c.loop-place.found.entries c.adopt_at.new.found.entries c.loop-place.place c.loop-place-test.true done.keys done.taken
          (done.adopting names before.adopting) before;
      keys = done.keys ∙ c.loop-place.invariant.keys;
    }

pub returns-clause-current : goal.returns-clause-current
returns-clause-current c =
    current_at_end (names_of c.args.entries.now.entries) c.loop-place.entries.entries c.loop-place.found.entries c.loop-place.place (omega (arith, c.loop-place-test.false)) c.loop-place.invariant.taken

pub returns-clause-names : goal.returns-clause-names
returns-clause-names c = c.loop-place.invariant.taken.adopting.names_are

pub returns-clause-found : goal.returns-clause-found
returns-clause-found c = record {
  names = c.loop-place.invariant.keys;
  none = nothing_at_end (names_of c.args.entries.now.entries) c.loop-place.entries.entries c.loop-place.found.entries c.loop-place.place (omega (arith, c.loop-place-test.false)) c.loop-place.invariant.taken;
}
