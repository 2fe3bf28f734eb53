use Rattle.std.proofs.Common.{◌∙◌, ap, subst, Some, None, is_some, if◌then◌else◌}
use Rattle.sheet_recalc.{specs.Names.{binding, SheetValue}, specs.Meaning.{val, IsOnlySolution}, specs.Entries.{names_of}, proofs.Live.{value_is}, proofs.Solution.{only_solution}}
use Rattle.sheet_recalc.proofs.sheet.Sheet.value.Goals as goal

pub returns-in-Some-clause-is : goal.returns-in-Some-clause-is
returns-in-Some-clause-is c =
    ap Some c.result.ensures
    ∙ (value_is c.self.inside.entries.entries c.self.invariant.live.current c.args.name (Some c.in-Some.entry.now) c.in-Some.ensures.value
    ∙ ap (λ (s : SheetValue). if is_some (binding s.names c.args.name) then Some (val s.names c.args.name) else None) c.self.view_is)

pub returns-in-None-clause-is : goal.returns-in-None-clause-is
returns-in-None-clause-is c =
    value_is c.self.inside.entries.entries c.self.invariant.live.current c.args.name None c.in-None.ensures.value
    ∙ ap (λ (s : SheetValue). if is_some (binding s.names c.args.name) then Some (val s.names c.args.name) else None) c.self.view_is

pub returns-in-Some-clause-solution : goal.returns-in-Some-clause-solution
returns-in-Some-clause-solution c = subst (λ (s : SheetValue). IsOnlySolution s.names) c.self.view_is (only_solution (names_of c.self.inside.entries.entries) c.self.invariant.live.sheet.acyclic)

pub returns-in-None-clause-solution : goal.returns-in-None-clause-solution
returns-in-None-clause-solution c = subst (λ (s : SheetValue). IsOnlySolution s.names) c.self.view_is (only_solution (names_of c.self.inside.entries.entries) c.self.invariant.live.sheet.acyclic)
