use Rattle.std.{proofs.Common.{◌≡◌, ◌∙◌, [], Option, Some, Bor, IfSome, get_or, sym, ap, subst}, specs.Map.{keys_of}}
use Rattle.{formula_core.specs.Formulas.{FormulaValue}, sheet_recalc.{specs.ProposedSheet.{outline_of, entry_of}, proofs.Entered.{name_at}}}
use Rattle.sheet_recalc.specs.declared.entry.Entry.TheVariants as entry
use Rattle.sheet_recalc.proofs.ahead.Ahead.input_of.Goals as goal

pub by_plan-requires-clause-held : goal.by_plan-requires-clause-held
by_plan-requires-clause-held c =
    let o = outline_of c.args.self.now.proposed.now in
    let found = c.args.self.now.found.now.entries in
    let told = subst (λ (f : Option (Bor FormulaValue)). IfSome f (λ g. entry_of o (get_or (keys_of found) c.args.self.now.place []) ≡ Some (entry.Formula g.now))) c.in-Some-Some-default-Some.is-0 c.requires.ahead.newest in
    ap (entry_of o) (sym (name_at found c.args.self.now.place _ (sym c.in-Some-Some-default-Some.ensures.entry))) ∙ told
