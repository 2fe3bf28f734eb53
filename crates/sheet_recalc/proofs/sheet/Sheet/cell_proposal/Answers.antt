use Rattle.std.{proofs.Common.{◌∙◌, Option, Err, refl, sym, ap, subst}, specs.Option.{option_map}, proofs.lemmas.Result.{err_from_is_err_and}}
use Rattle.{apl_expr.specs.Trees.{literal_of}, index_region.specs.declared.delta.Delta.TheVariants.{Patch}}
use Rattle.sheet_recalc.specs.{Names.{SheetValue, Binding}, Entries.{binding_of}, Changes.{SetCell, Refuses}, Cells.{cell_put, with_cell, IsDataAnswer}, Pending.{IsProposalOf}}
use Rattle.sheet_recalc.{specs.declared.proposal.Proposal.TheVariants.{Data as Changed}, proofs.Asked.{cell_asked}, proofs.Live.{binding_of_name}}
use Rattle.sheet_recalc.proofs.sheet.Sheet.cell_proposal.Goals as goal

pub returns-in_err-data_of-clause-refused : goal.returns-in_err-data_of-clause-refused
returns-in_err-data_of-clause-refused c =
    let positions = c.args.positions.now in
    let literal = literal_of c.args.literal.now in
    let cause = c.in_err-data_of.field-0.0 in
    let p = err_from_is_err_and c.from_residual.result c.from_residual.ensures.1 in
    let why = subst (λ (s : SheetValue). Refuses s.names (SetCell c.args.name positions literal) cause) c.self.view_is (c.in_err-data_of.ensures.refused (with_cell positions literal)) in
    rw (p.1, p.2) why

pub returns-in_err-patch-clause-refused : goal.returns-in_err-patch-clause-refused
returns-in_err-patch-clause-refused c =
    let positions = c.args.positions.now in
    let literal = literal_of c.args.literal.now in
    let cause = c.in_err-patch.field-0.0 in
    let p = err_from_is_err_and c.from_residual-in_err-patch.result c.from_residual-in_err-patch.ensures.1 in
    let is = binding_of_name c.self.inside.entries.entries c.args.name ∙ ap (option_map binding_of) c.in_ok-data_of.ensures.bound in
    let put = subst (λ (b : Option Binding). IsDataAnswer (cell_put b positions literal) (Err cause)) (sym is) c.in_err-patch.ensures.refused in
    let why = subst (λ (s : SheetValue). Refuses s.names (SetCell c.args.name positions literal) cause) c.self.view_is put in
    rw (p.1, p.2) why

pub returns-clause-is : goal.returns-clause-is
returns-clause-is c =
    let positions = c.args.positions.now in
    let literal = literal_of c.args.literal.now in
    let a = c.in_ok-data_of.field-0.now in
    let patch = c.in_ok-patch.patch in
    let held = c.in_ok-data_of.ensures.bound in
    let is = binding_of_name c.self.inside.entries.entries c.args.name ∙ ap (option_map binding_of) held in
    let put = ap (λ (b : Option Binding). cell_put b positions literal) is ∙ c.in_ok-patch.ensures.put in
    subst (λ (s : SheetValue). IsProposalOf s (SetCell c.args.name positions literal) c.args.name (Changed (Patch patch)) 0) c.self.view_is
    (cell_asked _ refl c.args.name positions literal patch a held c.in_ok-patch.ensures.fits put c.in_ok-patch.ensures.delta)
