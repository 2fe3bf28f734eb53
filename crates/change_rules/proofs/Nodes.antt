-- The change of a node, by cases on the changes of its arguments.
use Rattle.std.{proofs.Common.{◌≡◌, List, [], ◌∷◌, Bool, true, false, ◌||◌, not, is_ok, refl, ap, sym, ◌∙◌}, specs.List.{list_all, list_any}, proofs.lemmas.Bool.{cond-false, false≢true}, proofs.lemmas.List.Folds.{list_all-map}}
use Rattle.index_region.{specs.Patches.{PatchValue}, specs.declared.delta.Delta.{Delta}, specs.declared.delta.Delta.TheVariants.{Same, Patch, Grown, Whole}}
use Rattle.{change_core.specs.RuleModels.{RuleModel}, arrays_core.specs.Outcomes.{Outcome}}
use Rattle.change_rules.{specs.Nodes.{Argument, views, all_same, all_patched_at_most, is_grown, is_whole, is_patched_at_most, starts_anew, node_delta, node_cost, moved, reached_delta, reached_cost}, proofs.Refreshed.{deltas, any_delta}}

-- if arguments were at most patched, none changed in another way
none_else : (is_else : Delta → Bool) → is_else Same ≡ false → ((p : PatchValue) → is_else (Patch p) ≡ false) → (ds : List Delta) → list_all is_patched_at_most ds ≡ true → list_any is_else ds ≡ false
none_else is_else same patch [] h = refl
none_else is_else same patch (Same ∷ ds) h = rw same (none_else is_else same patch ds h)
none_else is_else same patch (Patch p ∷ ds) h = rw (patch p) (none_else is_else same patch ds h)
none_else is_else same patch (Grown t ∷ ds) h = absurd (false≢true h)
none_else is_else same patch (Whole r ∷ ds) h = absurd (false≢true h)

-- a node with an array and arguments that were at most patched is not evaluated from scratch
not_anew : (args : List Argument) (old : Outcome) → is_ok old ≡ true → all_patched_at_most args ≡ true → starts_anew args old ≡ false
not_anew args old ok h =
    ap (λ (b : Bool). b || not (is_ok old)) (sym (any_delta is_whole args) ∙ none_else is_whole refl (λ p. refl) (deltas args) (list_all-map is_patched_at_most _ args ∙ h)) ∙ ap (λ (b : Bool). not b) ok

pub delta_reached : (p : RuleModel) (args : List Argument) (old : Outcome) → all_same args ≡ false → is_ok old ≡ true → all_patched_at_most args ≡ true → reached_delta p (views args) (moved args) ≡ node_delta p args old
delta_reached p args old some ok h =
    let none = sym (any_delta is_grown args) ∙ none_else is_grown refl (λ p. refl) (deltas args) (list_all-map is_patched_at_most _ args ∙ h) in
    sym (cond-false _ _ _ some ∙ cond-false _ _ _ (not_anew args old ok h) ∙ cond-false _ _ _ none)

pub cost_reached : (p : RuleModel) (args : List Argument) (old : Outcome) → all_same args ≡ false → is_ok old ≡ true → all_patched_at_most args ≡ true → reached_cost p (views args) (moved args) ≡ node_cost p args old
cost_reached p args old some ok h =
    let none = sym (any_delta is_grown args) ∙ none_else is_grown refl (λ p. refl) (deltas args) (list_all-map is_patched_at_most _ args ∙ h) in
    sym (cond-false _ _ _ some ∙ cond-false _ _ _ (not_anew args old ok h) ∙ cond-false _ _ _ none)
