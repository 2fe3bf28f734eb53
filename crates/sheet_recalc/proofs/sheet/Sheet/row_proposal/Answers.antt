use Rattle.std.{proofs.Common.{◌∙◌, Option, Err, refl, sym, ap, subst}, specs.Option.{option_map}, proofs.lemmas.Result.{err_from_is_err_and}}
use Rattle.{apl_expr.specs.Trees.{literal_of}, index_region.specs.declared.delta.Delta.TheVariants.{Grown}}
use Rattle.sheet_recalc.specs.{Names.{SheetValue, Binding}, Entries.{binding_of}, Changes.{AddRow, Refuses}, Cells.{literal_items, IsDataAnswer}, Rows.{row_put, items_in_row, row_items_put}, Pending.{IsProposalOf}}
use Rattle.sheet_recalc.{specs.declared.proposal.Proposal.TheVariants.{Data as Changed}, proofs.Asked.{row_asked}, proofs.Live.{binding_of_name}}
use Rattle.sheet_recalc.proofs.sheet.Sheet.row_proposal.Goals as goal

pub returns-in_err-data_of-clause-refused : goal.returns-in_err-data_of-clause-refused
returns-in_err-data_of-clause-refused c =
    let literal = literal_of c.args.literal.now in
    let cause = c.in_err-data_of.field-0.0 in
    let p = err_from_is_err_and c.from_residual.result c.from_residual.ensures.1 in
    let put = c.in_err-data_of.ensures.refused (λ a. row_items_put a (items_in_row a.shape) (literal_items literal)) in
    let why = subst (λ (s : SheetValue). Refuses s.names (AddRow c.args.name literal) cause) c.self.view_is put in
    rw (p.1, p.2) why

pub returns-in_err-tail-clause-refused : goal.returns-in_err-tail-clause-refused
returns-in_err-tail-clause-refused c =
    let literal = literal_of c.args.literal.now in
    let cause = c.in_err-tail.field-0.0 in
    let p = err_from_is_err_and c.from_residual-in_err-tail.result c.from_residual-in_err-tail.ensures.1 in
    let is = binding_of_name c.self.inside.entries.entries c.args.name ∙ ap (option_map binding_of) c.in_ok-data_of.ensures.bound in
    let put = subst (λ (b : Option Binding). IsDataAnswer (row_put b literal) (Err cause)) (sym is) c.in_err-tail.ensures.refused in
    let why = subst (λ (s : SheetValue). Refuses s.names (AddRow c.args.name literal) cause) c.self.view_is put in
    rw (p.1, p.2) why

pub returns-clause-is : goal.returns-clause-is
returns-clause-is c =
    let literal = literal_of c.args.literal.now in
    let a = c.in_ok-data_of.field-0.now in
    let tail = c.in_ok-tail.tail in
    let held = c.in_ok-data_of.ensures.bound in
    let is = binding_of_name c.self.inside.entries.entries c.args.name ∙ ap (option_map binding_of) held in
    let put = ap (λ (b : Option Binding). row_put b literal) is ∙ c.in_ok-tail.ensures.put in
    subst (λ (s : SheetValue). IsProposalOf s (AddRow c.args.name literal) c.args.name (Changed (Grown tail)) 0) c.self.view_is
    (row_asked _ refl c.args.name literal tail a held c.in_ok-tail.ensures.fits put c.in_ok-tail.ensures.items)
