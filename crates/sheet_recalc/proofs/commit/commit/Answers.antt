use Rattle.{std.{proofs.Common.{◌≡◌, ◌∙◌, sym, ap, subst}, specs.Str.{bytes_eq}}, indexmap.specs.IndexMap.{insert_entry}}
use Rattle.sheet_recalc.{specs.Names.{put}, specs.Entries.{names_of, binding_of}, specs.Live.{IsAdopting, plan_in}, proofs.Live.{names_of_insert, adopting_planned}}
use Rattle.sheet_recalc.proofs.commit.commit.Goals as goal

pub adopt_all-requires : goal.adopt_all-requires
adopt_all-requires c =
    let es = c.args.entries.now.entries in
    let put_in : c.insert.new.self.entries ≡ insert_entry bytes_eq es c.args.name c.args.entry = rw c.unwrap-before.ensures at c.insert.ensures.entries in
    let names = ap names_of put_in ∙ names_of_insert c.args.name c.args.entry es in
    subst (λ ns. IsAdopting ns c.insert.new.self.entries (plan_in c.args.found.now.entries)) (sym names)
    (subst (λ fs. IsAdopting (put (names_of es) c.args.name (binding_of c.args.entry)) fs (plan_in c.args.found.now.entries)) (sym put_in) (adopting_planned es c.args.name c.args.entry (plan_in c.args.found.now.entries) c.requires.planned))

pub returns-clause-names : goal.returns-clause-names
returns-clause-names c =
    let put_in : c.insert.new.self.entries ≡ insert_entry bytes_eq c.args.entries.now.entries c.args.name c.args.entry = rw c.unwrap-before.ensures at c.insert.ensures.entries in
    c.adopt_all.ensures.names ∙ (ap names_of put_in ∙ names_of_insert c.args.name c.args.entry c.args.entries.now.entries)
