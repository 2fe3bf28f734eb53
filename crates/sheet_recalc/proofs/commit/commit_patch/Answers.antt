use Rattle.std.proofs.Common.{◌≡◌, ◌∙◌, Some, sym, ap, subst}
use Rattle.index_region.specs.Patches.{patched}
use Rattle.sheet_recalc.{specs.Entries.{names_of, patched_entry, FitsEntry}, specs.Live.{plan_in}, specs.declared.entry.Entry.{Entry}, proofs.Live.{names_of_insert, edited_in_place, adopting_edited}}
use Rattle.sheet_recalc.specs.declared.entry.Entry.TheVariants as entry
use Rattle.sheet_recalc.proofs.commit.commit_patch.Goals as goal

pub write-requires : goal.write-requires
write-requires c =
    let found : Some c.in-Some.entry.now ≡ Some (entry.Data c.requires.data.0) = c.in-Some.ensures.value ∙ c.requires.data.1 in
    let this : c.in-Some.entry.now ≡ entry.Data c.requires.data.0 = cc in
    subst (λ (e : Entry). FitsEntry e c.args.patch.now) (sym this) c.requires.data.2

pub adopt_all-requires : goal.adopt_all-requires
adopt_all-requires c =
    let es = c.args.entries.now.entries in
    let a = c.requires.data.0 in
    let held = c.requires.data.1 in
    let is = edited_in_place c.args.name es _ a (patched a c.args.patch.now) _ _ held c.in-Some.ensures.value (λ this. c.write.ensures ∙ ap (λ (e : Entry). patched_entry e c.args.patch.now) this) (c.get_mut.follows.holds c.write.new.self).0 in
    adopting_edited es _ c.args.name (entry.Data (patched a c.args.patch.now)) (plan_in c.args.found.now.entries) is (c.requires.planned a held)

pub returns-in-Some-clause-names : goal.returns-in-Some-clause-names
returns-in-Some-clause-names c = λ a held.
    let es = c.args.entries.now.entries in
    let is = edited_in_place c.args.name es _ a (patched a c.args.patch.now) _ _ held c.in-Some.ensures.value (λ this. c.write.ensures ∙ ap (λ (e : Entry). patched_entry e c.args.patch.now) this) (c.get_mut.follows.holds c.write.new.self).0 in
    c.adopt_all.ensures.names ∙ (ap names_of is ∙ names_of_insert c.args.name (entry.Data (patched a c.args.patch.now)) es)
