use Rattle.std.{proofs.Common.{◌∙◌, sym, ap, Option, []}, specs.Option.{option_map, option_map_or}}
use Rattle.sheet_recalc.{specs.Names.{Binding, referred}, specs.Entries.{binding_of}, specs.declared.entry.Entry.{Entry}, proofs.Live.{binding_of_name}}
use Rattle.sheet_recalc.proofs.commit.references_of.Goals as goal

pub returns-in-Some : goal.returns-in-Some
returns-in-Some c =
    c.references.ensures ∙ ap (λ (o : Option Binding). option_map_or referred o [])
    (sym (binding_of_name c.args.entries.now.entries c.args.name ∙ ap (λ (o : Option Entry). option_map binding_of o) (sym c.in-Some.ensures.value)))

pub returns-in-None : goal.returns-in-None
returns-in-None c =
    ap (λ (o : Option Binding). option_map_or referred o [])
    (sym (binding_of_name c.args.entries.now.entries c.args.name ∙ ap (λ (o : Option Entry). option_map binding_of o) (sym c.in-None.ensures.value)))
