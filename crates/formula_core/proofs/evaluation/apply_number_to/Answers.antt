use Rattle.std.{proofs.Common.{◌≡◌, ℤ, sym, subst, IfOk, Ok, to_z, of_z, w64, SFits, rules}, proofs.lemmas.Int.{to_z-of_z}}
use Rattle.apl_expr.{specs.declared.expr.Dyadic.TheVariants.{Scalar}, specs.declared.functions.Function2.TheVariants.{Dyad}}
use Rattle.{arrays_core.specs.Arrays.{IsAnswerTo, ArrayValue, scalar_of}, scalar_fns.specs.ScalarExtension.{dyadic_on_arrays}}
use Rattle.formula_core.{specs.Evaluated.{outcome_of, array_in}, specs.Meaning.{of_both, applied2}}
use Rattle.formula_core.proofs.evaluation.apply_number_to.Goals as goal

pub returns-in-Ok : goal.returns-in-Ok
returns-in-Ok c =
    let f = c.args.function in
    let a = array_in c.in-Ok.right in
    let fits : SFits w64 c.args.left = search rules in
    let same : to_z w64 (of_z w64 c.args.left) ≡ c.args.left = to_z-of_z w64 _ fits in
    let answer : IsAnswerTo (of_both (Dyad (Scalar f)) (scalar_of c.args.left) a) c.apply_to_left.result =
    subst (λ (x : ArrayValue). IsAnswerTo (dyadic_on_arrays f (scalar_of c.args.left) x) c.apply_to_left.result) c.array.ensures
    (subst (λ (z : ℤ). IsAnswerTo (dyadic_on_arrays f (scalar_of z) c.array.result.now) c.apply_to_left.result) same c.apply_to_left.ensures) in
    subst (λ r. IfOk c.made.result (λ operand. outcome_of operand ≡ applied2 (Dyad (Scalar f)) (outcome_of r) (Ok (scalar_of c.args.left)))) (sym c.in-Ok.is)
    (c.made.ensures (of_both (Dyad (Scalar f)) (scalar_of c.args.left) a) answer)
