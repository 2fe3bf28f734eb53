use Rattle.{std.proofs.Common.{◌≡◌, sym, subst, map, IfOk, Ok}, arrays_core.specs.Arrays.{IsAnswerTo, ArrayValue}, selection_fns.specs.Index.{index_whole}}
use Rattle.formula_core.{specs.Evaluated.{outcome_of, array_in, position_in, positions_in}, specs.Meaning.{indexed}}
use Rattle.formula_core.proofs.evaluation.apply_index.Goals as goal

pub returns-in-Ok-operand : goal.returns-in-Ok-operand
returns-in-Ok-operand c =
    let a = array_in c.in-Ok-operand.operand in
    let ps = map position_in c.in-Ok.positions.items in
    let answer : IsAnswerTo (index_whole a ps) c.of_positions.result =
    subst (λ (x : ArrayValue). IsAnswerTo (index_whole x ps) c.of_positions.result) c.array.ensures
    (subst (λ (xs : _). IsAnswerTo (index_whole c.array.result.now (map position_in xs)) c.of_positions.result) c.as_slice.ensures.value c.of_positions.ensures) in
    subst (λ r. IfOk c.made.result (λ made. outcome_of made ≡ indexed (positions_in r) (outcome_of c.args.operand))) (sym c.in-Ok.is)
    (subst (λ r. IfOk c.made.result (λ made. outcome_of made ≡ indexed (Ok ps) (outcome_of r))) (sym c.in-Ok-operand.is)
    (c.made.ensures (index_whole a ps) answer))
