use Rattle.std.{proofs.Common.{◌∙◌, sym, ap, Some}, specs.Option.{option_map}}
use Rattle.sheet_recalc.{specs.Entries.{binding_of}, specs.Cells.{on_data}, specs.declared.entry.Entry.{Entry}, proofs.Live.{binding_of_name}}
use Rattle.sheet_recalc.proofs.entry.data_of.Goals as goal

pub returns-in-None-clause-refused : goal.returns-in-None-clause-refused
returns-in-None-clause-refused c = λ edit. ap (on_data edit) (binding_of_name c.args.entries.now.entries c.args.name.now ∙ ap (option_map binding_of) (sym c.in-None.ensures.value))

pub returns-in-Some-Formula-clause-refused : goal.returns-in-Some-Formula-clause-refused
returns-in-Some-Formula-clause-refused c = λ edit.
    let held = sym c.in-Some-Formula.ensures.value ∙ ap (λ (e : Entry). Some e) c.in-Some-Formula.field-0-is in
    ap (on_data edit) (binding_of_name c.args.entries.now.entries c.args.name.now ∙ ap (option_map binding_of) held)
