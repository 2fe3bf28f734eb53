use Rattle.std.{proofs.Common.{◌∙◌, sym, ap, [], Option, Some, None}, specs.Option.{option_map, option_map_or}}
use Rattle.sheet_recalc.{specs.Names.{Binding, referred}, specs.Entries.{names_of, binding_of}, specs.Meaning.{val}, specs.ProposedSheet.{outline_of, own_entry}, proofs.Proposed.{bound_own, bound_other}, proofs.Readied.{references_made}}
use Rattle.sheet_recalc.proofs.proposed_sheet.ProposedSheet.references_of.Goals as goal

pub returns-then-eq : goal.returns-then-eq
returns-then-eq c =
    let o = outline_of c.args.self.now in
    c.references.ensures ∙ (sym (references_made (val (names_of o.entries) o.name) o.proposal)
    ∙ ap (λ (b : Option Binding). option_map_or referred b []) (sym (bound_own o.entries o.name (option_map binding_of (own_entry o)) c.args.name (sym c.eq.ensures ∙ c.if-eq.true))))

pub returns-in-Some : goal.returns-in-Some
returns-in-Some c =
    let o = outline_of c.args.self.now in
    c.references-in-Some.ensures ∙ ap (λ (b : Option Binding). option_map_or referred b [])
    (sym (bound_other o.entries o.name (option_map binding_of (own_entry o)) c.args.name (Some c.in-Some.entry.now) (sym c.eq.ensures ∙ c.if-eq.false) c.in-Some.ensures.value))

pub returns-in-None : goal.returns-in-None
returns-in-None c =
    let o = outline_of c.args.self.now in
    ap (λ (b : Option Binding). option_map_or referred b [])
    (sym (bound_other o.entries o.name (option_map binding_of (own_entry o)) c.args.name None (sym c.eq.ensures ∙ c.if-eq.false) c.in-None.ensures.value))
