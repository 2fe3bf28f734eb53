use Rattle.std.proofs.Common.{◌≡◌, ◌∙◌, Some, sym, ap, subst}
use Rattle.arrays_core.specs.Growth.{grown_by}
use Rattle.sheet_recalc.{specs.Entries.{names_of, grown_entry, FitsBehind}, specs.Live.{plan_in}, specs.declared.entry.Entry.{Entry}, proofs.Live.{names_of_insert, edited_in_place, adopting_edited}}
use Rattle.sheet_recalc.specs.declared.entry.Entry.TheVariants as entry
use Rattle.sheet_recalc.proofs.commit.commit_row.Goals as goal

pub grow-requires : goal.grow-requires
grow-requires c =
    let found : Some c.in-Some.entry.now ≡ Some (entry.Data c.requires.data.0) = c.in-Some.ensures.value ∙ c.requires.data.1 in
    let this : c.in-Some.entry.now ≡ entry.Data c.requires.data.0 = cc in
    subst (λ (e : Entry). FitsBehind e c.args.tail) (sym this) c.requires.data.2

pub adopt_all-requires : goal.adopt_all-requires
adopt_all-requires c =
    let es = c.args.entries.now.entries in
    let a = c.requires.data.0 in
    let held = c.requires.data.1 in
    let is = edited_in_place c.args.name es _ a (grown_by a c.args.tail.items) _ _ held c.in-Some.ensures.value (λ this. c.grow.ensures ∙ ap (λ (e : Entry). grown_entry e c.args.tail) this) (c.get_mut.follows.holds c.grow.new.self).0 in
    adopting_edited es _ c.args.name (entry.Data (grown_by a c.args.tail.items)) (plan_in c.args.found.now.entries) is (c.requires.planned a held)

pub returns-in-Some-clause-names : goal.returns-in-Some-clause-names
returns-in-Some-clause-names c = λ a held.
    let es = c.args.entries.now.entries in
    let is = edited_in_place c.args.name es _ a (grown_by a c.args.tail.items) _ _ held c.in-Some.ensures.value (λ this. c.grow.ensures ∙ ap (λ (e : Entry). grown_entry e c.args.tail) this) (c.get_mut.follows.holds c.grow.new.self).0 in
    c.adopt_all.ensures.names ∙ (ap names_of is ∙ names_of_insert c.args.name (entry.Data (grown_by a c.args.tail.items)) es)
