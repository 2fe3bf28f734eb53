-- The change of an operation whose checks fail.
use Rattle.std.{proofs.Common.{◌≡◌, ℕ, suc, ◌+◌, ◌<◌, ◌≤◌, List, [], ◌∷◌, length, map, Bool, true, false, ◌&&◌, ◌||◌, not, Option, Some, None, is_some, is_ok, Result, Ok, Err, refl, sym, ap, ◌∙◌, subst, if◌then◌else◌, nat_eq, inl, inr, arith}, specs.Borrow.{Bor}, specs.List.{list_all, list_any}}
use Rattle.std.{specs.Result.{result_err}, proofs.lemmas.List.{length-map}, proofs.lemmas.Bool.{cases_Bool, cond-false, eqb-true}}
use Rattle.arrays_core.{specs.Arrays.{ArrayValue, IsArray}, specs.Outcomes.{Outcome, fault, given}, specs.declared.item.Item.{Item}, specs.declared.item.Kind.{Kind}, specs.declared.item.Kind.TheVariants.{Rank}}
use Rattle.index_region.{specs.declared.delta.Delta.{Delta}, specs.declared.delta.Delta.TheVariants.{Same, Whole}, specs.Arguments.{is_scalar}, specs.Checks.{Form, check, whole}}
use Rattle.change_core.{specs.declared.reach.Reach.{Reach}, specs.Reaches.{reach_of}, specs.RuleModels.{RuleModel, form_size}}
use Rattle.change_rules.specs.Nodes.{Argument, is_same, is_whole, is_grown, moved_by, views, delta_in, size_in, grown_in, grown_size}
use Rattle.selection_fns.specs.Index.{Position, count_written, written_positions, index_form, index_rule}
use Rattle.formula_core.{specs.declared.input.Input.{Input}, specs.declared.input.Input.TheVariants.{Good}, specs.Changes.{arguments, result_delta, result_cost, result_grows, operation_delta, operation_cost}, specs.Inputs.{shown, stays, delta_of, IsOperationChange, written_inputs, arrays_among, last_error}}
use Rattle.formula_core.proofs.Gathered.{gathered, list_stays, arrays_count}

-- nothing, or the error of the checks
abbrev delta_by : (same anew grown grows : Bool) → Result Form Kind → (List ℕ → Result Item Kind) → Reach → Delta
delta_by same anew grown grows form item reach =
    if same then Same
    else if anew then Whole (given (whole form item))
    else if grown then (if grows then grown_in form item else Whole (given (whole form item)))
    else delta_in form item reach

refused_delta : (same anew grown grows : Bool) (kind : Kind) (item : List ℕ → Result Item Kind) (reach : Reach) → delta_by same anew grown grows (Err kind) item reach ≡ (if same then Same else Whole (Err (fault kind)))
refused_delta true anew grown grows kind item reach = refl
refused_delta false true grown grows kind item reach = refl
refused_delta false false true true kind item reach = refl
refused_delta false false true false kind item reach = refl
refused_delta false false false grows kind item reach = refl

abbrev cost_by : (same anew grown grows : Bool) → Result Form Kind → Reach → ℕ
cost_by same anew grown grows form reach =
    if same then 0
    else if anew then form_size form
    else if grown then (if grows then grown_size form else form_size form)
    else size_in form reach

refused_cost : (same anew grown grows : Bool) (kind : Kind) (reach : Reach) → cost_by same anew grown grows (Err kind) reach ≡ 0
refused_cost true anew grown grows kind reach = refl
refused_cost false true grown grows kind reach = refl
refused_cost false false true true kind reach = refl
refused_cost false false true false kind reach = refl
refused_cost false false false grows kind reach = refl

module _ (p : RuleModel) (arrays : List ArrayValue) (ds : List Delta) (held : Outcome) (kind : Kind) (refused : p.form arrays ≡ Err kind) where
  abbrev anew : Bool
  anew = list_any is_whole ds || not (is_ok held)

  abbrev reach : Reach
  reach = reach_of p arrays (map moved_by ds)

  result_refused : result_delta p arrays ds held ≡ (if list_all is_same ds then Same else Whole (Err (fault kind)))
  result_refused =
      ap (λ (f : Result Form Kind). delta_by (list_all is_same ds) anew (list_any is_grown ds) (result_grows p arrays ds) f (p.item arrays) reach) refused
      ∙ refused_delta (list_all is_same ds) anew (list_any is_grown ds) (result_grows p arrays ds) kind (p.item arrays) reach

  nothing_computed : result_cost p arrays ds held ≡ 0
  nothing_computed =
      ap (λ (f : Result Form Kind). cost_by (list_all is_same ds) anew (list_any is_grown ds) (result_grows p arrays ds) f reach) refused
      ∙ refused_cost (list_all is_same ds) anew (list_any is_grown ds) (result_grows p arrays ds) kind reach

refused_change : (p : RuleModel) (inputs : List Input) (held : Outcome) (before : ℕ) (kind : Kind) (d : Delta) → last_error inputs ≡ None → p.form (views (arrays_among inputs)) ≡ Err kind
    → d ≡ (if list_all stays inputs then Same else Whole (Err (fault kind))) → IsOperationChange p inputs held before before (Ok (d, 0))
refused_change p inputs held before kind d none refused is =
    let all = gathered inputs none in
    let arrays = views (arrays_among inputs) in
    let ds = map delta_of inputs in
    record {
      delta = is
          ∙ ap (λ (b : Bool). if b then Same else Whole (Err (fault kind))) (list_stays inputs)
          ∙ (sym (result_refused p arrays ds held kind refused) ∙ ap (λ o. operation_delta p o ds held) (sym all.are));
      cost = sym (nothing_computed p arrays ds held kind refused) ∙ ap (λ o. operation_cost p o ds held) (sym all.are);
      ticks = omega arith;
      least = λ _. omega arith;
      rises = omega arith;
    }

-- as many positions as are told to be written or empty
positions_long : (written : List Bool) (args : List ArrayValue) → length args ≡ count_written written → length (written_positions written args) ≡ length written
positions_long [] args h = refl
positions_long (true ∷ written) (p ∷ args) h = ap suc (positions_long written args (omega (arith, h)))
positions_long (true ∷ written) [] h = absurd (omega (arith, h))
positions_long (false ∷ written) args h = ap suc (positions_long written args h)

and_false : (b c : Bool) → c ≡ false → (b && c) ≡ false
and_false true c h = h
and_false false c h = refl

-- more positions than an array has axes are RANK ERROR
many_form : (written : List Bool) (a : ArrayValue) (args : List ArrayValue) → IsArray a → length args ≡ count_written written → 4 < length written → (index_rule written).form (a ∷ args) ≡ Err Rank
many_form written a args sound count many =
    let positions = written_positions written args in
    let rank : length a.shape ≤ 4 = sound.within.rank in
    let other : nat_eq (length positions) (length a.shape) ≡ false = elim (cases_Bool (nat_eq (length positions) (length a.shape))) [
      | inl t ↦ absurd (omega (arith, eqb-true (length positions) (length a.shape) t, positions_long written args count, rank, many))
      | inr f ↦ f
    ] in
    cond-false _ _ _ (and_false (not (is_scalar a)) (nat_eq (length positions) (length a.shape)) other)

pub many_change : (a : ArrayValue) (delta : Bor Delta) (positions : List (Option Input)) (held : Outcome) (before : ℕ) (d : Delta) → IsArray a → last_error (written_inputs positions) ≡ None → last_error (Good a delta ∷ written_inputs positions) ≡ None
    → 4 < length positions → d ≡ (if list_all stays (Good a delta ∷ written_inputs positions) then Same else Whole (Err (fault Rank)))
    → IsOperationChange (index_rule (map is_some positions)) (Good a delta ∷ written_inputs positions) held before before (Ok (d, 0))
many_change a delta positions held before d sound others none many is =
    let args = arrays_among (written_inputs positions) in
    let count : length (views args) ≡ count_written (map is_some positions) = length-map args (λ (x : Argument). x.0) ∙ arrays_count positions others in
    let long : length (map is_some positions) ≡ length positions = length-map positions is_some in
    refused_change (index_rule (map is_some positions)) (Good a delta ∷ written_inputs positions) held before Rank d none
    (many_form (map is_some positions) a (views args) sound count (omega (arith, many, long))) is
