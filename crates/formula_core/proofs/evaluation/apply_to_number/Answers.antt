use Rattle.std.{proofs.Common.{◌≡◌, sym, subst, IfOk, Ok, to_z, of_z, w64, SFits, rules}, proofs.lemmas.Int.{to_z-of_z}}
use Rattle.apl_expr.{specs.declared.expr.Dyadic.TheVariants.{Scalar}, specs.declared.functions.Function2.TheVariants.{Dyad}}
use Rattle.{arrays_core.specs.Arrays.{IsAnswerTo, ArrayValue, scalar_of}, scalar_fns.specs.ScalarExtension.{dyadic_on_arrays}}
use Rattle.formula_core.{specs.Evaluated.{outcome_of, array_in}, specs.Meaning.{of_both, applied2}}
use Rattle.formula_core.proofs.evaluation.apply_to_number.Goals as goal

pub returns-in-Ok : goal.returns-in-Ok
returns-in-Ok c =
    let f = c.args.function in
    let a = array_in c.in-Ok.left in
    let fits : SFits w64 c.args.right = search rules in
    let same : to_z w64 (of_z w64 c.args.right) ≡ c.args.right = to_z-of_z w64 _ fits in
    let answer : IsAnswerTo (of_both (Dyad (Scalar f)) a (scalar_of c.args.right)) c.apply_to_right.result =
    subst (λ (x : ArrayValue). IsAnswerTo (dyadic_on_arrays f x (scalar_of c.args.right)) c.apply_to_right.result) c.array.ensures
    (rw same at c.apply_to_right.ensures) in
    subst (λ r. IfOk c.made.result (λ operand. outcome_of operand ≡ applied2 (Dyad (Scalar f)) (Ok (scalar_of c.args.right)) (outcome_of r))) (sym c.in-Ok.is)
    (c.made.ensures (of_both (Dyad (Scalar f)) a (scalar_of c.args.right)) answer)
