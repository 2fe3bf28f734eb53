use Rattle.{std.proofs.Common.{ap, ◌∙◌}, apl_expr.specs.Trees.{literal_of}, formula_core.{specs.Meaning.{array_of}, proofs.LiteralArrays.{literal_back}}}
use Rattle.formula_core.proofs.constant.Constant.of.Goals as goal

pub invariant_of-result : goal.invariant_of-result
invariant_of-result c = ap array_of (literal_back (literal_of c.args.literal.now) c.in-Ok.array c.in-Ok.ensures) ∙ c.in-Ok.ensures

pub returns-in-Ok : goal.returns-in-Ok
returns-in-Ok c = literal_back (literal_of c.args.literal.now) c.in-Ok.array c.in-Ok.ensures
