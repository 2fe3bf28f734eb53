use Rattle.std.{proofs.Common.{◌∙◌, List, ap}, specs.List.{count_by}}
use Rattle.formula_core.{specs.declared.kept.Kept.{Kept}, specs.Tables.{applies}, specs.Formulas.{FormulaValue, operations}, proofs.Rooted.{operations_counted}}
use Rattle.formula_core.proofs.formula.Formula.all_operations.Goals as goal

pub returns : goal.returns
returns c =
    let inside = c.self.inside in
    c.count_operations.ensures ∙ (ap (λ (ns : List Kept). count_by (λ k. applies k.node) ns) c.as_slice.ensures.value
    ∙ (operations_counted inside.names.value.items inside.nodes.items _ c.self.invariant ∙ ap (λ (f : FormulaValue). operations f.tree) c.self.view_is))
