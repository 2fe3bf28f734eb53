use Rattle.{std.proofs.Common.{◌≡◌, ◌∙◌, [], ◌∷◌, refl, ap, sym}, arrays_core.specs.Arrays.{ArrayValue}}
use Rattle.{change_rules.{specs.Evaluation.{evaluation}, specs.Nodes.{is_whole}}, index_region.specs.declared.delta.Delta.TheVariants.{Whole}}
use Rattle.formula_core.{specs.Rules.{right_rule}, proofs.Meant.{right_meant}, proofs.Told.{replaced}}
use Rattle.formula_core.proofs.application.of_right.Goals as goal

pub brought-requires : goal.brought-requires
brought-requires c = ap is_whole (c.in_ok-_cost.ensures.refreshed (replaced c.plain.result ∷ []) (refl, tt, tt)).delta

pub returns : goal.returns
returns c =
    let f = c.args.function in
    let told : Whole c.brought.result ≡ Whole (evaluation (right_rule f) (c.plain.result ∷ [])) =
    sym c.brought.ensures ∙ (c.in_ok-_cost.ensures.refreshed (replaced c.plain.result ∷ []) (refl, tt, tt)).delta in
    let is : c.brought.result ≡ evaluation (right_rule f) (c.plain.result ∷ []) = cc in
    is ∙ ap (λ (b : ArrayValue). evaluation (right_rule f) (b ∷ [])) c.plain.ensures ∙ right_meant f c.args.array.now
