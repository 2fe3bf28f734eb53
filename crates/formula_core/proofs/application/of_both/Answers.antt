use Rattle.{std.proofs.Common.{◌≡◌, ◌∙◌, [], ◌∷◌, refl, ap, sym}, change_rules.{specs.Evaluation.{evaluation}, specs.Nodes.{is_whole}}}
use Rattle.index_region.specs.declared.delta.Delta.TheVariants.{Whole}
use Rattle.formula_core.{specs.Rules.{both_rule}, proofs.Meant.{both_meant}, proofs.Told.{replaced}}
use Rattle.formula_core.proofs.application.of_both.Goals as goal

pub brought-requires : goal.brought-requires
brought-requires c = ap is_whole (c.in_ok-_cost.ensures.refreshed (replaced c.plain.result ∷ replaced c.plain-2.result ∷ []) (refl, tt, (refl, tt, tt))).delta

pub returns : goal.returns
returns c =
    let f = c.args.function in
    let told : Whole c.brought.result ≡ Whole (evaluation (both_rule f) (c.plain.result ∷ c.plain-2.result ∷ [])) =
    sym c.brought.ensures ∙ (c.in_ok-_cost.ensures.refreshed (replaced c.plain.result ∷ replaced c.plain-2.result ∷ []) (refl, tt, (refl, tt, tt))).delta in
    let is : c.brought.result ≡ evaluation (both_rule f) (c.plain.result ∷ c.plain-2.result ∷ []) = cc in
    is ∙ (λ i. evaluation (both_rule f) (c.plain.ensures i ∷ c.plain-2.ensures i ∷ [])) ∙ both_meant f c.args.left.now c.args.right.now
