use Rattle.std.{proofs.Common.{◌≡◌, ◌∷◌, sym, ap, ◌∙◌, subst, map, is_some, None, Some, Ok, Err, if◌then◌else◌, arith}, specs.List.{list_all}}
use Rattle.{arrays_core.{specs.declared.item.Kind.TheVariants.{Rank}, specs.Outcomes.{fault}, specs.Arrays.{ArrayValue}}, change_core.specs.Reaches.{AllFit}}
use Rattle.{index_region.specs.declared.delta.Delta.TheVariants.{Same, Whole}, change_rules.specs.Nodes.{views, moved}, selection_fns.specs.Index.{index_rule}}
use Rattle.formula_core.{specs.declared.input.Input.{Input}, specs.declared.input.Input.TheVariants.{Good}, specs.Rules.{with_change, IsRefreshed}, specs.Inputs.{stays, HasFit, IsOperationChange, arrays_among, last_error, written_inputs}}
use Rattle.formula_core.{proofs.Gathered.{none_with_array, refreshed_change, error_behind, error_in_front, error_change, written_fit, arrays_fit, arrays_count}, proofs.Refused.{many_change}}
use Rattle.formula_core.proofs.index_change.change_of_index.Goals as goal

pub change_of_arrays-requires-clause-count : goal.change_of_arrays-requires-clause-count
change_of_arrays-requires-clause-count c = arrays_count c.args.positions.now (sym c.last_fault.ensures ∙ c.in-None-Good.is-0)

pub change_of_arrays-requires-clause-fit : goal.change_of_arrays-requires-clause-fit
change_of_arrays-requires-clause-fit c =
    let delta = c.in-None-Good.delta in
    let others = written_inputs c.args.positions.now in
    let array_fits : HasFit (Good c.in-None-Good.indexed delta) = subst HasFit c.in-None-Good.is-1 c.requires.array in
    subst (λ (a : ArrayValue). AllFit (views ((a, delta) ∷ arrays_among others)) (moved ((a, delta) ∷ arrays_among others))) (sym c.again.ensures)
    (arrays_fit (Good c.in-None-Good.indexed delta ∷ others) (array_fits, written_fit c.args.positions.now c.requires.positions))

pub returns-in-Some-default-clause-change : goal.returns-in-Some-default-clause-change
returns-in-Some-default-clause-change c =
    let others = written_inputs c.args.positions.now in
    let first : last_error (c.args.array.now ∷ others) ≡ Some c.in-Some-default.fault = error_behind c.args.array.now others c.in-Some-default.fault (sym c.last_fault.ensures ∙ c.in-Some-default.is-0) in
    error_change (index_rule (map is_some c.args.positions.now)) (c.args.array.now ∷ others) c.args.held.now c.args.meter.now.ticks c.in-Some-default.fault c.beside_error.new.change first (rw (← c.all_stay.ensures) c.beside_error.ensures)

pub returns-in-None-Bad-clause-change : goal.returns-in-None-Bad-clause-change
returns-in-None-Bad-clause-change c =
    let others = written_inputs c.args.positions.now in
    let fault = c.in-None-Bad.fault in
    let first : last_error (c.args.array.now ∷ others) ≡ Some fault =
    subst (λ (i : Input). last_error (i ∷ others) ≡ Some fault) (sym c.in-None-Bad.is-1) (error_in_front fault c.in-None-Bad.changed-1 others (sym c.last_fault.ensures ∙ c.in-None-Bad.is-0)) in
    error_change (index_rule (map is_some c.args.positions.now)) (c.args.array.now ∷ others) c.args.held.now c.args.meter.now.ticks fault c.beside_error-in-None-Bad.new.change first
    (rw (← c.all_stay-in-None-Bad.ensures) c.beside_error-in-None-Bad.ensures)

pub returns-then-positions-gt-FEW_POSITIONS-clause-change : goal.returns-then-positions-gt-FEW_POSITIONS-clause-change
returns-then-positions-gt-FEW_POSITIONS-clause-change c =
    let array = c.in-None-Good.indexed in
    let delta = c.in-None-Good.delta in
    let others = written_inputs c.args.positions.now in
    let later : last_error others ≡ None = sym c.last_fault.ensures ∙ c.in-None-Good.is-0 in
    let change = c.beside_error-then-positions-gt-FEW_POSITIONS.new.change in
    let stay : list_all stays (c.args.array.now ∷ others) ≡ list_all stays (Good array delta ∷ others) = ap (λ (i : Input). list_all stays (i ∷ others)) c.in-None-Good.is-1 in
    let is : change ≡ (if list_all stays (Good array delta ∷ others) then Same else Whole (Err (fault Rank))) =
    c.beside_error-then-positions-gt-FEW_POSITIONS.ensures
    ∙ (λ i. if (c.all_stay-then-positions-gt-FEW_POSITIONS.ensures ∙ stay) i then Same else Whole (Err ((c.of.ensures ∙ c.into-rank.ensures) i))) in
    subst (λ (i : Input). IsOperationChange (index_rule (map is_some c.args.positions.now)) (i ∷ others) c.args.held.now c.args.meter.now.ticks c.args.meter.now.ticks (Ok (change, 0))) (sym c.in-None-Good.is-1)
    (many_change array delta c.args.positions.now c.args.held.now c.args.meter.now.ticks change c.shape-is_array.ensures.sound later (none_with_array array delta others later) (omega (arith, c.if-positions-gt-FEW_POSITIONS.true)) is)

pub returns-else-positions-gt-FEW_POSITIONS-clause-change : goal.returns-else-positions-gt-FEW_POSITIONS-clause-change
returns-else-positions-gt-FEW_POSITIONS-clause-change c =
    let array = c.in-None-Good.indexed in
    let delta = c.in-None-Good.delta in
    let others = written_inputs c.args.positions.now in
    let rule = index_rule (map is_some c.args.positions.now) in
    let none : last_error (Good array delta ∷ others) ≡ None = none_with_array array delta others (sym c.last_fault.ensures ∙ c.in-None-Good.is-0) in
    subst (λ (i : Input). IsOperationChange rule (i ∷ others) c.args.held.now c.args.meter.now.ticks c.change_of_arrays.new.meter.ticks (with_change c.change_of_arrays.new.change c.change_of_arrays.result)) (sym c.in-None-Good.is-1)
    (refreshed_change rule (Good array delta ∷ others) c.args.held.now c.args.meter.now.ticks c.change_of_arrays.new.meter.ticks (with_change c.change_of_arrays.new.change c.change_of_arrays.result) none
    (subst (λ (a : ArrayValue). IsRefreshed rule ((a, delta) ∷ arrays_among others) c.args.held.now c.args.meter.now.ticks c.change_of_arrays.new.meter.ticks (with_change c.change_of_arrays.new.change c.change_of_arrays.result)) c.again.ensures c.change_of_arrays.ensures.refreshed))
