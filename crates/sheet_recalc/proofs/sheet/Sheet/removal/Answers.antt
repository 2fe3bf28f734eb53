use Rattle.std.proofs.Common.{◌≡◌, ◌∙◌, None, IsSome, sym, subst}
use Rattle.sheet_recalc.{specs.Names.{SheetValue, binding}, proofs.Live.{present_name, absent_name}, proofs.Asked.{erase_asked}}
use Rattle.sheet_recalc.proofs.sheet.Sheet.removal.Goals as goal

pub returns-then-not-contains_key-clause-refused :
    goal.returns-then-not-contains_key-clause-refused
returns-then-not-contains_key-clause-refused c =
    let none = absent_name c.self.inside.entries.entries c.args.name (sym c.if-not-contains_key.true ∙ c.contains_key.ensures) in
    subst (λ (s : SheetValue). binding s.names c.args.name ≡ None) c.self.view_is none

pub returns-clause-is : goal.returns-clause-is
returns-clause-is c =
    erase_asked c.args.self.now c.args.name
    (subst (λ (s : SheetValue). IsSome (binding s.names c.args.name)) c.self.view_is (present_name c.self.inside.entries.entries c.args.name (sym c.contains_key.ensures ∙ c.if-not-contains_key.false)))
