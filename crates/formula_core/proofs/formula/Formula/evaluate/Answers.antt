use Rattle.{std.proofs.Common.{ap, ◌∙◌}, formula_core.{specs.Formulas.{FormulaValue}, specs.Meaning.{eval}, proofs.AtRest.{planned_result}}}
use Rattle.apl_expr.specs.Trees.{Tree}
use Rattle.formula_core.proofs.formula.Formula.evaluate.Goals as goal

pub returns-in-Ok-clause-value : goal.returns-in-Ok-clause-value
returns-in-Ok-clause-value g c =
    let names = g.S.Shows.shows c.args.names.now in
    planned_result c.count_as_new.new.self names c.in-Ok.plan c.adopt.new.self.nodes c.in-Ok.ensures.planned (ap (λ (f : FormulaValue). f.nodes) c.adopt.ensures)
    ∙ ap (λ (t : Tree). eval t names) (ap (λ (f : FormulaValue). f.tree) c.count_as_new.ensures)
