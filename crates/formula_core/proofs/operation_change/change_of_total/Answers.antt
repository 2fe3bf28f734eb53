use Rattle.std.proofs.Common.{◌≡◌, ◌∙◌, false, Ok, Some, None, Option, IfOk, [], ◌∷◌, sym, ap, subst}
use Rattle.{arrays_core.{specs.Arrays.{ArrayValue}, specs.Outcomes.{Outcome}}, change_rules.specs.Nodes.{is_error}}
use Rattle.sum_rules.{specs.LineSums.{SummedValue, length_along}, specs.Totals.{AreFolds, AreFoldsWithin, HasAllJoins, HasJoins, StoodBefore, StoodFor, total_rule}}
use Rattle.formula_core.{specs.declared.input.Input.{Input}, specs.Changes.{FitsNow, operation_cost}, specs.Inputs.{shown, delta_of, HasFit}, specs.Rules.{with_change}, specs.Stages.{AreTotalsJoined}, proofs.Gathered.{in_place}, specs.Sums.{summed_in, AreSumsKept, IsSummedFor, WasGrown, WasPatched}}
use Rattle.formula_core.{proofs.Summed.{kept_of, stood_before, stood_for}, proofs.Totalled.{totalled_by_folds, totalled_by_trees}}
use Rattle.formula_core.proofs.operation_change.change_of_total.Goals as goal

pub refresh_totals_with_cost-requires-clause-sums : goal.refresh_totals_with_cost-requires-clause-sums
refresh_totals_with_cost-requires-clause-sums c =
    let fold = c.args.fold in
    let sums = c.in-Some-kept.sums in
    let trees = c.trees_with-trees.result.lines in
    record {
      changed = λ p is.
          let was = c.requires.kept.changed p sums (ap delta_of c.in-Good.is ∙ is) c.in-Some-kept.is in
          let here : WasPatched fold (Ok c.in-Good.array) p sums = subst (λ (o : Outcome). WasPatched fold o p sums) (ap shown c.in-Good.is) was in
          let folded = (kept_of fold (Ok sums.array) sums (sym here.lines)).folded in (
            c.trees_with-trees.ensures.function ∙ folded,
            subst (λ (a : ArrayValue). StoodFor fold.along trees p a) (sym c.again.ensures) (stood_for fold c.in-Good.array p sums trees here c.trees_with-trees.ensures.lines),
          );
      grew = λ t is.
          let was = c.requires.kept.grew t sums (ap delta_of c.in-Good.is ∙ is) c.in-Some-kept.is in
          let here : WasGrown fold (Ok c.in-Good.array) t sums = subst (λ (o : Outcome). WasGrown fold o t sums) (ap shown c.in-Good.is) was in
          let folded = (kept_of fold (Ok sums.array) sums (sym here.lines)).folded in (
            c.trees_with-trees.ensures.function ∙ folded,
            subst (λ (a : ArrayValue). StoodBefore fold.along trees t a) (sym c.again.ensures) (stood_before fold c.in-Good.array t sums trees here c.trees_with-trees.ensures.lines),
          );
    }

pub returns-in-Some-kept-clause-joins : goal.returns-in-Some-kept-clause-joins
returns-in-Some-kept-clause-joins c = λ well.
    let fold = c.args.fold in
    let a = c.in-Good.array in
    let delta = c.in-Good.delta in
    let sums = c.in-Some-kept.sums in
    let held = c.args.held.now in
    let before = c.args.meter.now.joins in
    let after = c.refresh_totals_with_cost.new.meter.joins in
    let change = c.refresh_totals_with_cost.new.change in
    let answered = c.refresh_totals_with_cost.result in
    let r = with_change change answered in
    let fit : FitsNow delta.now (Ok a) = subst HasFit c.in-Good.is c.requires.fit in
    let seen : IsSummedFor fold (Ok a) delta.now c.args.kept.now = subst (λ (i : Input). IsSummedFor fold (shown i) (delta_of i) c.args.kept.now) c.in-Good.is c.requires.kept in
    let some : IsSummedFor fold (Ok a) delta.now (Some sums) = subst (λ (k : Option SummedValue). IsSummedFor fold (Ok a) delta.now k) c.in-Some-kept.is seen in
    let joins : HasJoins fold (a, delta) held before after = subst (λ (x : ArrayValue). HasJoins fold (x, delta) held before after) c.again.ensures c.refresh_totals_with_cost.ensures.joins in
    let all : IfOk r (λ s. is_error s.0 ≡ false → HasAllJoins fold (a, delta) held before after) =
    subst (λ (x : ArrayValue). IfOk r (λ s. is_error s.0 ≡ false → HasAllJoins fold (x, delta) held before after)) c.again.ensures
    (in_place (λ s. is_error s.0 ≡ false → HasAllJoins fold (c.again.result, delta) held before after) change answered c.refresh_totals_with_cost.ensures.least) in
    subst (λ (i : Input). AreTotalsJoined fold i held before after r) (sym c.in-Good.is) (totalled_by_trees fold a delta held before after r fit sums some joins all)

pub returns-in-None-clause-joins : goal.returns-in-None-clause-joins
returns-in-None-clause-joins c = λ well.
    let fold = c.args.fold in
    let a = c.in-Good.array in
    let delta = c.in-Good.delta in
    let held = c.args.held.now in
    let before = c.args.meter.now.joins in
    let after = c.fold_totals_with_cost.new.meter.joins in
    let change = c.fold_totals_with_cost.new.change in
    let answered = c.fold_totals_with_cost.result in
    let r = with_change change answered in
    let fit : FitsNow delta.now (Ok a) = subst HasFit c.in-Good.is c.requires.fit in
    let seen : AreSumsKept fold (Ok a) delta.now c.args.kept.now = subst (λ (i : Input). AreSumsKept fold (shown i) (delta_of i) c.args.kept.now) c.in-Good.is well in
    let none : AreSumsKept fold (Ok a) delta.now None = subst (λ (k : Option SummedValue). AreSumsKept fold (Ok a) delta.now k) c.in-None.is seen in
    let folds =
    subst (λ (x : ArrayValue). AreFoldsWithin (operation_cost (total_rule fold) (Ok (x ∷ [])) (delta.now ∷ []) held) (length_along fold.along x.shape) before after) c.again.ensures c.fold_totals_with_cost.ensures.joins in
    let cost = subst (λ (x : ArrayValue). IfOk r (λ s. s.1 ≡ operation_cost (total_rule fold) (Ok (x ∷ [])) (delta.now ∷ []) held)) c.again.ensures
    (in_place (λ s. s.1 ≡ operation_cost (total_rule fold) (Ok (c.again.result ∷ [])) (delta.now ∷ []) held) change answered c.fold_totals_with_cost.ensures.cost) in
    let all = subst (λ (x : ArrayValue). IfOk r (λ s. is_error s.0 ≡ false → AreFolds s.1 (length_along fold.along x.shape) before after)) c.again.ensures
    (in_place (λ s. is_error s.0 ≡ false → AreFolds s.1 (length_along fold.along c.again.result.shape) before after) change answered c.fold_totals_with_cost.ensures.folds) in
    subst (λ (i : Input). AreTotalsJoined fold i held before after r) (sym c.in-Good.is) (totalled_by_folds fold a delta held before after r fit none folds cost all)

pub read_totals_with_cost-requires : goal.read_totals_with_cost-requires
read_totals_with_cost-requires c =
    let made = c.requires.made c.in-Whole-made.new c.in-Whole-made.is in
    sym c.in-Some.is ∙ made ∙ ap (λ (i : Input). summed_in c.args.fold (shown i)) c.in-Good.is
