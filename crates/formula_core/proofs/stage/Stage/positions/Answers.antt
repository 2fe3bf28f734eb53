use Rattle.std.{proofs.Common.{◌+◌, ◌∙◌, List, map, take, Option, Some, None, sym, subst}, specs.Option.{option_map}, proofs.lemmas.List.{get_or_default}}
use Rattle.formula_core.{specs.declared.input.Input.{Input}, specs.Inputs.{AllHaveFit}, specs.Stages.{GiveTheirTrees}, specs.Tables.{tree_of_operand}, proofs.Steps.{operand_within, position_ready}, proofs.Stepping.{fit_more}, proofs.stage.Stage.positions.Goals.{in-Some, in-None}}
use Rattle.formula_core.proofs.stage.Stage.positions.Goals as goal

pub argument-requires-clause-within : goal.argument-requires-clause-within
argument-requires-clause-within c =
    operand_within _ _ c.args.arguments.now c.requires.within c.loop-argument.argument-index c.in-Some.argument c.loop-argument-test.true
    (get_or_default c.args.arguments.now c.loop-argument.argument-index None c.argument-item.result c.loop-argument-test.true ∙ (sym c.argument-item.is ∙ c.in-Some.is))

pub loop-argument-preserved : goal.loop-argument-preserved
loop-argument-preserved c =
    let s = c.args.self.now in
    let os = c.args.arguments.now in
    let k = c.loop-argument.argument-index in
    let before = c.loop-argument.positions.items in
    let pushed = c.in_ok-push.ensures.ok in
    let here = get_or_default os k None c.argument-item.result c.loop-argument-test.true ∙ sym c.argument-item.is in
    elim c.match-argument.branch [
      | in-Some w ↦
          let more = rw w.push-is at pushed in
          record {
            fit = subst AllHaveFit (sym more) (fit_more before (Some w.argument.result) c.loop-argument.invariant.fit (w.argument.ensures.fit, tt));
            ready = λ change names trees staged.
                subst (λ (is : List (Option Input)). GiveTheirTrees s.is_new change (map (option_map (tree_of_operand names trees)) (take (k + 1) os)) is) (sym more)
                (position_ready s.is_new change (option_map (tree_of_operand names trees)) os k (Some w.in-Some.argument) before (Some w.argument.result) c.loop-argument-test.true (here ∙ w.in-Some.is)
                (c.loop-argument.invariant.ready change names trees staged) (w.argument.ensures.ready change names trees staged, tt));
          }
      | in-None w ↦
          let more = rw w.push-is at pushed in
          record {
            fit = subst AllHaveFit (sym more) (fit_more before None c.loop-argument.invariant.fit tt);
            ready = λ change names trees staged.
                subst (λ (is : List (Option Input)). GiveTheirTrees s.is_new change (map (option_map (tree_of_operand names trees)) (take (k + 1) os)) is) (sym more)
                (position_ready s.is_new change (option_map (tree_of_operand names trees)) os k None before None c.loop-argument-test.true (here ∙ w.in-None.is) (c.loop-argument.invariant.ready change names trees staged) tt);
          }
    ]
