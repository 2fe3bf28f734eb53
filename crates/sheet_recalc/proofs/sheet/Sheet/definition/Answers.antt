use Rattle.{std.proofs.Common.{ap}, apl_expr.specs.Trees.{tree_of}, formula_core.specs.Formulas.{FormulaValue}, sheet_recalc.proofs.Asked.{define_asked}}
use Rattle.sheet_recalc.proofs.sheet.Sheet.definition.Goals as goal

pub returns-clause-is : goal.returns-clause-is
returns-clause-is c = λ name.
    let is = c.in_ok-formula.ensures in
    define_asked c.args.self.now name c.in_ok-formula.formula (tree_of c.args.tree.now) (ap (λ (f : FormulaValue). f.tree) is) (ap (λ (f : FormulaValue). f.is_new) is)
