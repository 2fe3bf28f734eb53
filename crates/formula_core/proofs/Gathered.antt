-- The inputs of an operation, collected for its rule if none is an error.
use Rattle.std.{proofs.Common.{◌≡◌, ℕ, suc, ◌+◌, ◌≤◌, List, [], ◌∷◌, length, map, Bool, ◌&&◌, Option, Some, None, is_some, Result, Ok, Err, refl, sym, ap, ◌∙◌, subst, IfOk, if◌then◌else◌, arith}, specs.Borrow.{Bor}, specs.List.{list_all}, specs.Result.{result_err}, specs.declared.alloc.AllocError.{AllocError}}
use Rattle.arrays_core.{specs.Arrays.{ArrayValue}, specs.declared.fault.Fault.{Fault}, specs.Outcomes.{Outcome}}
use Rattle.index_region.{specs.declared.delta.Delta.{Delta}, specs.declared.delta.Delta.TheVariants.{Same, Patch, Grown, Whole}}
use Rattle.{change_core.{specs.Reaches.{Fits, AllFit}, specs.RuleModels.{RuleModel}}, change_rules.specs.Nodes.{Argument, views, moved, moved_by, is_same}}
use Rattle.selection_fns.specs.Index.{count_written}
use Rattle.formula_core.{specs.declared.input.Input.{Input}, specs.declared.input.Input.TheVariants.{Good, Bad}, specs.Rules.{with_change, IsRefreshed}, specs.Changes.{FitsNow, argument_in_front, arguments, operation_delta, operation_cost}}
use Rattle.formula_core.{specs.Inputs.{shown, stays, delta_of, HasFit, AllHaveFit, IsOperationChange, written_inputs, arrays_among, last_error}, proofs.Stepping.{stays_same}, proofs.Values.{HaveValues, no_values, values_more, delta_by_values, cost_by_values}}

-- the inputs are all arrays, and these are the arrays
pub record IsGathered (inputs : List Input) : Type 0 where
  pub are : arguments (map shown inputs) ≡ Ok (views (arrays_among inputs))
  pub told : HaveValues (arrays_among inputs) (views (arrays_among inputs)) (map delta_of inputs)
  pub count : length (arrays_among inputs) ≡ length inputs

none_behind : (a : ArrayValue) (r : Result (List ArrayValue) Fault) → result_err (argument_in_front (Ok a) r) ≡ None → result_err r ≡ None
none_behind a (Err e) h = h
none_behind a (Ok arrays) h = refl

some_in_front : (f : Fault) (r : Result (List ArrayValue) Fault) → result_err (argument_in_front (Err f) r) ≡ None → ⊥
some_in_front f (Err e) h = cc
some_in_front f (Ok arrays) h = cc

pub gathered : (inputs : List Input) → last_error inputs ≡ None → IsGathered inputs
gathered [] h = record { are = refl; told = no_values; count = refl }
gathered (Good a d ∷ inputs) h =
    let rest = gathered inputs (none_behind a (arguments (map shown inputs)) h) in
    record {
      are = ap (argument_in_front (Ok a)) rest.are;
      told = values_more a d (arrays_among inputs) (views (arrays_among inputs)) (map delta_of inputs) rest.told;
      count = ap suc rest.count;
    }
gathered (Bad f changed ∷ inputs) h = absurd (some_in_front f (arguments (map shown inputs)) h)

-- an array in front adds no error
pub none_with_array : (a : ArrayValue) (d : Bor Delta) (inputs : List Input) → last_error inputs ≡ None → last_error (Good a d ∷ inputs) ≡ None
none_with_array a d inputs h = ap (λ r. result_err (argument_in_front (Ok a) r)) (gathered inputs h).are

-- a property of a returned cost with the change that was stored
pub in_place : (P : Delta × ℕ → Type 0) (change : Delta) (r : Result ℕ AllocError) → IfOk r (λ n. P (change, n)) → IfOk (with_change change r) P
in_place P change (Ok n) h = h
in_place P change (Err e) h = tt

-- if all inputs are arrays, the change by the rule is the change of the operation
pub refreshed_change : (p : RuleModel) (inputs : List Input) (held : Outcome) (before after : ℕ) (r : Result (Delta × ℕ) AllocError) → last_error inputs ≡ None
    → IsRefreshed p (arrays_among inputs) held before after r → IsOperationChange p inputs held before after r
refreshed_change p inputs held before after r none made =
    let all = gathered inputs none in
    record {
      delta = subst (λ (x : Delta). IfOk r (λ s. s.0 ≡ x))
          (delta_by_values p (arrays_among inputs) (views (arrays_among inputs)) (map delta_of inputs) held all.told ∙ ap (λ o. operation_delta p o (map delta_of inputs) held) (sym all.are)) made.delta;
      cost = subst (λ (x : ℕ). IfOk r (λ s. s.1 ≡ x))
          (cost_by_values p (arrays_among inputs) (views (arrays_among inputs)) (map delta_of inputs) held all.told ∙ ap (λ o. operation_cost p o (map delta_of inputs) held) (sym all.are)) made.cost;
      ticks = subst (λ (x : ℕ). after ≤ before + x)
          (cost_by_values p (arrays_among inputs) (views (arrays_among inputs)) (map delta_of inputs) held all.told ∙ ap (λ o. operation_cost p o (map delta_of inputs) held) (sym all.are)) made.ticks;
      least = made.least;
      rises = made.rises;
    }

-- beside an error
pub list_stays : (inputs : List Input) → list_all stays inputs ≡ list_all is_same (map delta_of inputs)
list_stays [] = refl
list_stays (i ∷ inputs) = let here = stays_same i in let rest = list_stays inputs in λ k. here k && rest k

is_error : (e : Fault) (r : Result (List ArrayValue) Fault) → result_err r ≡ Some e → r ≡ Err e
is_error e (Err f) h = cc
is_error e (Ok arrays) h = absurd (let no : ⊥ = cc in no)

-- a later error comes before an earlier one
pub error_behind : (i : Input) (inputs : List Input) (e : Fault) → last_error inputs ≡ Some e → last_error (i ∷ inputs) ≡ Some e
error_behind i inputs e h = ap (λ r. result_err (argument_in_front (shown i) r)) (is_error e (arguments (map shown inputs)) h)

pub error_in_front : (f : Fault) (changed : Bool) (inputs : List Input) → last_error inputs ≡ None → last_error (Bad f changed ∷ inputs) ≡ Some f
error_in_front f changed inputs h = ap (λ r. result_err (argument_in_front (Err f) r)) (gathered inputs h).are

pub error_change : (p : RuleModel) (inputs : List Input) (held : Outcome) (before : ℕ) (e : Fault) (d : Delta) → last_error inputs ≡ Some e
    → d ≡ (if list_all stays inputs then Same else Whole (Err e)) → IsOperationChange p inputs held before before (Ok (d, 0))
error_change p inputs held before e d some is =
    let error : arguments (map shown inputs) ≡ Err e = is_error e (arguments (map shown inputs)) some in
    record {
      delta = is
          ∙ ap (λ (b : Bool). if b then Same else Whole (Err e)) (list_stays inputs)
          ∙ ap (λ o. operation_delta p o (map delta_of inputs) held) (sym error);
      cost = ap (λ o. operation_cost p o (map delta_of inputs) held) (sym error);
      ticks = omega arith;
      least = λ _. omega arith;
      rises = omega arith;
    }

-- patches lie in their arrays, and grown arrays have axes
abbrev pub EachHasFit : List Input → Type 0
EachHasFit [] = Unit {0}
EachHasFit (i ∷ inputs) = HasFit i × EachHasFit inputs

pub written_fit : (positions : List (Option Input)) → AllHaveFit positions → EachHasFit (written_inputs positions)
written_fit [] h = tt
written_fit (Some i ∷ positions) h = (h.0, written_fit positions h.1)
written_fit (None ∷ positions) h = written_fit positions h

box_lies : (a : ArrayValue) (d : Delta) → FitsNow d (Ok a) → Fits a (moved_by d)
box_lies a Same h = tt
box_lies a (Patch p) h = h.inside
box_lies a (Grown t) h = tt
box_lies a (Whole r) h = tt

pub arrays_fit : (inputs : List Input) → EachHasFit inputs → AllFit (views (arrays_among inputs)) (moved (arrays_among inputs))
arrays_fit [] h = tt
arrays_fit (Good a d ∷ inputs) h = (box_lies a d.now h.0, arrays_fit inputs h.1)
arrays_fit (Bad f changed ∷ inputs) h = arrays_fit inputs h.1

-- the number of written positions
written_count : (positions : List (Option Input)) → length (written_inputs positions) ≡ count_written (map is_some positions)
written_count [] = refl
written_count (Some i ∷ positions) = ap suc (written_count positions)
written_count (None ∷ positions) = written_count positions

pub arrays_count : (positions : List (Option Input)) → last_error (written_inputs positions) ≡ None → length (arrays_among (written_inputs positions)) ≡ count_written (map is_some positions)
arrays_count positions h = (gathered (written_inputs positions) h).count ∙ written_count positions
