-- The change of a node yields the evaluation of the new arguments.
use Rattle.std.{proofs.Common.{◌≡◌, List, [], ◌∷◌, length, map, ap, sym, ◌∙◌, subst, true, Bool, not, Option, inl, inr, is_ok}, proofs.lemmas.List.{length-map}, proofs.lemmas.List.Folds.{list_all-map}, proofs.lemmas.Simd.{map-map}, specs.List.{list_any}}
use Rattle.std.proofs.lemmas.Bool.{and_parts, or_parts, cases_Bool, cond-true, cond-false, not-false}
use Rattle.{arrays_core.{specs.Arrays.{IsArray}, specs.Outcomes.{Outcome}}, index_region.{specs.Boxes.{Interval}, specs.declared.delta.Delta.{Delta}}}
use Rattle.change_core.{specs.Growth.{AllGrew, IsGrowing}, specs.Tightness.{Each, ReachCovers}, specs.Reaches.{AllFit, LiesInResult, reach_of}, specs.RuleModels.{RuleModel}}
use Rattle.change_rules.{specs.Currency.{BringsUpToDate, HasAxis, IsEvaluation, applied}, specs.Nodes.{Argument, all_same, any_grown, delta_in, grown_delta, is_grown, is_grown_at_most, is_same, moved_by, node_grows, is_whole, marks, moved, node_delta, starts_anew, views}, specs.Evaluation.{evaluation}}
use Rattle.change_rules.{proofs.GrownRight.{HaveAxes, grown_before, grown_right}, proofs.Refreshed.{ShowsAll, arguments_before, any_delta, deltas, kept_right, same_olds, shows_all}}

axes_deltas : (args : List Argument) → HasAxis args → HaveAxes (deltas args) (views args)
axes_deltas [] h = tt
axes_deltas (a ∷ args) h = (h.0, axes_deltas args h.1)

-- a node that grows, or is evaluated from scratch after an argument grew
grown_case : (p : RuleModel) → IsGrowing p p.grows → (os : List Outcome) (args : List Argument) (old : Outcome) → ShowsAll os (deltas args) (views args) → HasAxis args → Each IsArray (views args) → IsEvaluation p os old → is_ok old ≡ true
    → applied (grown_delta p args) old ≡ evaluation p (views args)
grown_case p law os args old all axes sound evaluated ok = elim (cases_Bool (node_grows p args)) [
  | inl t ↦
      let parts = and_parts _ _ t in
      let before = grown_before os (deltas args) (views args) all (list_all-map is_grown_at_most _ args ∙ parts.0) (axes_deltas args axes) sound in
      ap (λ (d : Delta). applied d old) (cond-true _ _ _ t)
      ∙ grown_right p law (marks args) before.olds (views args) old (subst (λ (m : List Bool). AllGrew m before.olds (views args)) (map-map is_grown _ args) before.grew) before.sound sound parts.1 (evaluated before.olds before.old) ok
  | inr f ↦ ap (λ (d : Delta). applied d old) (cond-false _ _ _ f)
]

-- the change, applied to the old evaluation, yields the new one
pub brings_up_to_date : (p : RuleModel) → ReachCovers p → IsGrowing p p.grows → (args : List Argument) (old : Outcome) → length args ≡ length p.selectors → LiesInResult (p.form (views args)) (reach_of p (views args) (moved args)) → AllFit (views args) (moved args)
    → HasAxis args → Each IsArray (views args) → BringsUpToDate p args old (node_delta p args old)
brings_up_to_date p law growing args old count lies fit axes sound os shows evaluated =
    let boxes : moved args ≡ map moved_by (deltas args) = sym (map-map moved_by _ args) in
    let all = shows_all os args shows in
    let many : length (views args) ≡ length p.selectors = length-map args (λ (a : Argument). a.0) ∙ count in
    let then = λ (d : Delta). applied d old in
    elim (cases_Bool (all_same args)) [
      | inl t ↦ ap then (cond-true _ _ _ t) ∙ evaluated (views args) (same_olds os (deltas args) (views args) all (list_all-map is_same _ args ∙ t))
      | inr f ↦ elim (cases_Bool (starts_anew args old)) [
        | inl t ↦ ap then (cond-false _ _ _ f ∙ cond-true _ _ _ t)
        | inr g ↦
            let parts = or_parts (list_any (λ (a : Argument). is_whole a.1.now) args) (not (is_ok old)) g in
            elim (cases_Bool (any_grown args)) [
              | inl some ↦ ap then (cond-false _ _ _ f ∙ cond-false _ _ _ g ∙ cond-true _ _ _ some) ∙ grown_case p growing os args old all axes sound evaluated (not-false (is_ok old) parts.1)
              | inr none ↦
                  let before = arguments_before os (deltas args) (views args) all (any_delta is_whole args ∙ parts.0) (any_delta is_grown args ∙ none)
                  (subst (AllFit (views args)) boxes fit) sound in
                  ap then (cond-false _ _ _ f ∙ cond-false _ _ _ g ∙ cond-false _ _ _ none)
                  ∙ ap (λ (m : List (Option (List Interval))). applied (delta_in (p.form (views args)) (p.item (views args)) (reach_of p (views args) m)) old) boxes
                  ∙ kept_right p law os (deltas args) (views args) old many (subst (λ (m : List (Option (List Interval))). LiesInResult (p.form (views args)) (reach_of p (views args) m)) boxes lies) before evaluated (not-false (is_ok old) parts.1)
            ]
      ]
    ]
