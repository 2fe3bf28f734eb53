use Rattle.std.{proofs.Common.{rules, tests, ◌≡◌, ◌∙◌, sym, refl, ap, List, [], ◌∷◌, true, ◌&&◌, Option, Some, None}, specs.List.{list_all}, specs.Option.{option_map_or}, proofs.lemmas.Iterator.{YieldsList-from_slice}, proofs.lemmas.Iterator.Search.{all_from_yields_List}}
use Rattle.formula_core.{specs.declared.input.Input.{Input}, specs.Inputs.{stays, written_inputs}}
use Rattle.formula_core.proofs.index_change.all_stay.Goals as goal

-- an empty position does not change
written_stay : (positions : List (Option Input)) → list_all (λ p. option_map_or stays p true) positions ≡ list_all stays (written_inputs positions)
written_stay [] = refl
written_stay (Some input ∷ positions) = ap (λ b. stays input && b) (written_stay positions)
written_stay (None ∷ positions) = written_stay positions

pub returns-then-stays : goal.returns-then-stays
returns-then-stays c =
    let first : stays c.args.array.now ≡ true = sym c.stays.ensures ∙ c.if-stays.true in
    rw first (all_from_yields_List (λ p. option_map_or stays p true) _ _ c.all.result c.all.ensures.ran (YieldsList-from_slice c.args.positions.now cc) (λ x b q k. search (rules, tests)) ∙ written_stay c.args.positions.now)
