use Rattle.{std.{proofs.Common.{◌∙◌, ap, sym}, specs.Option.{option_map}}, formula_core.proofs.Summed.{change_or, sums_step}}
use Rattle.formula_core.proofs.stage.Stage.sums_of.Goals as goal

pub returns-in-Some : goal.returns-in-Some
returns-in-Some c =
    change_or _ _ c.sums_delta.result
    (λ d delta change names trees staged holds. sums_step change names trees c.args.self.now staged c.args.node.now c.requires.node c.in-Some.fold c.in-Some.right.now (sym c.totalled.ensures ∙ ap (option_map (λ p. (p.0, p.1.now))) c.in-Some.is) c.argument.result
    (c.argument.ensures.ready change names trees staged) c.args.kept.now holds d delta)
    c.sums_delta.ensures
