use Rattle.std.{proofs.Common.{◌≡◌, ◌∙◌, ℕ, List, Option, Some, None, refl, sym, ap}, specs.Option.{option_map, option_map_or}}
use Rattle.formula_core.specs.Formulas.{FormulaValue}
use Rattle.sheet_recalc.{specs.Names.{Binding}, specs.Entries.{binding_of}, specs.Costs.{functions_of}, specs.Planning.{functions_at}, specs.ProposedSheet.{Outline, outline_of, entry_of}, specs.declared.entry.Entry.{Entry}, proofs.Entered.{name_at}, proofs.PlannedNames.{binding_entry}}
use Rattle.sheet_recalc.specs.declared.entry.Entry.TheVariants as entry
use Rattle.sheet_recalc.proofs.planning.functions_at.Goals as goal

pub returns-in-Some-formula_of : goal.returns-in-Some-formula_of
returns-in-Some-formula_of c =
    let o = outline_of c.args.proposed.now in
    c.all_operations.ensures ∙ (sym (ap (λ (b : Option Binding). option_map_or functions_of b 0) (binding_entry o c.in-Some.name.now ∙ ap (option_map binding_of) c.in-Some-formula_of.ensures))
    ∙ ap (functions_at o) (sym (name_at c.args.found.now.entries c.args.place _ (sym c.in-Some.ensures.entry))))

none_applied : (o : Outline) (q : List ℕ) → ((f : FormulaValue) → entry_of o q ≡ Some (entry.Formula f) → ⊥) → 0 ≡ functions_at o q
none_applied o q plain = sym (ap (λ (b : Option Binding). option_map_or functions_of b 0) (binding_entry o q) ∙ by (entry_of o q) refl)
  where
    by : (e : Option Entry) → entry_of o q ≡ e → option_map_or functions_of (option_map binding_of e) 0 ≡ 0
    by None is = refl
    by (Some (entry.Data a)) is = refl
    by (Some (entry.Formula f)) is = absurd (plain f is)

pub returns-in-None : goal.returns-in-None
returns-in-None c =
    let o = outline_of c.args.proposed.now in
    none_applied o c.in-Some.name.now c.in-None.ensures ∙ ap (functions_at o) (sym (name_at c.args.found.now.entries c.args.place _ (sym c.in-Some.ensures.entry)))
