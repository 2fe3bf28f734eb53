use Rattle.std.{proofs.Common.{◌≡◌, ◌+◌, ◌-◌, ◌<◌, ◌≤◌, [], ◌∷◌, to_z, of_z, w64, SFits, length, get_or, drop, List, Option, Some, None, Result, Ok, Err, is_ok, ◌∙◌, ap, sym, subst, map, arith, rules}, proofs.lemmas.Bool.{false≢true}, proofs.lemmas.Int.{to_z-of_z}}
use Rattle.apl_expr.{specs.declared.expr.Expr.{Expr}, specs.declared.functions.Function2.TheVariants.{Dyad}, specs.declared.expr.Dyadic.TheVariants.{Scalar}, specs.Trees.{Tree, Numbers, Const, Index, before_argument, between_arguments, tree_of, position_of, positions_of}, proofs.Rows.{tree_index}}
use Rattle.{arrays_core.{specs.Arrays.{scalar_of}, specs.declared.fault.Fault.{Fault}, specs.Outcomes.{Outcome}}, selection_fns.specs.Index.{Position}}
use Rattle.formula_core.{specs.Counts.{cost_in, cost_in_positions, ArePositionsCounted, IsTreeCounted}, specs.Evaluated.{outcome_of, position_in, positions_in}, specs.Meaning.{eval, eval_positions, applied1, applied2, indexed}, proofs.Applied.{eval_before, eval_between}}
use Rattle.formula_core.{proofs.Counted.{literal_counted, monad_counted, dyad_counted, index_counted, index_cost, cost_from, cost_written, cost_empty, cost_left, failed_at}, proofs.Indexing.{there}, proofs.evaluation.+value.Goals.{position_operands-in-Some+in_ok-operand-in-Some+in-Ok, position_operands-in-None}}
use Rattle.formula_core.proofs.evaluation.+value.Goals as goal

pub before-returns-clause-counted : goal.before-returns-clause-counted
before-returns-clause-counted g t c =
    let names = g.S.Shows.shows c.args.names.now in
    let f = c.args.function in
    let b = tree_of c.args.right.now in
    let start = c.args.meter.now.ticks in
    let now = c.argument.new.meter.ticks in
    let after = c.counted.new.meter.ticks in
    let first : IsTreeCounted names b start now (Ok c.in_ok-right.right) = c.in_ok-right.ensures.counted in
    let right : outcome_of c.in_ok-right.right ≡ eval b names = c.in_ok-right.ensures.value in
    let is : outcome_of c.in_ok-given.given ≡ eval (before_argument f b) names = c.in_ok-given.ensures ∙ ap (applied1 f) right ∙ sym (eval_before names f b) in
    monad_counted names f b start now after c.in_ok-right.right c.in_ok-given.given c.counted.result first is c.counted.ensures.items

pub between-returns-in-Some-number_of-clause-counted : goal.between-returns-in-Some-number_of-clause-counted
between-returns-in-Some-number_of-clause-counted g t c =
    let names = g.S.Shows.shows c.args.names.now in
    let f = Dyad (Scalar c.in-Some.scalar) in
    let z = c.in-Some-number_of.number in
    let a = tree_of c.args.sides.now.left in
    let b = Const (Numbers (z ∷ [])) in
    let before = c.args.meter.now.ticks in
    let now = c.argument.new.meter.ticks in
    let after = c.counted.new.meter.ticks in
    let fits : SFits w64 z = search rules in
    let same : to_z w64 (of_z w64 z) ≡ z = to_z-of_z w64 _ fits in
    let last : tree_of c.args.sides.now.right ≡ b = c.in-Some-number_of.ensures in
    let made : between_arguments c.args.function a (tree_of c.args.sides.now.right) ≡ between_arguments f a b = λ i. between_arguments (c.in-Some.ensures i) a (last i) in
    let first : IsTreeCounted names a before now (Ok c.in_ok-left.left) = c.in_ok-left.ensures.counted in
    let left : outcome_of c.in_ok-left.left ≡ eval a names = c.in_ok-left.ensures.value in
    let given : outcome_of c.in_ok-given.given ≡ applied2 f (Ok (scalar_of z)) (outcome_of c.in_ok-left.left) = rw same at c.in_ok-given.ensures in
    let is : outcome_of c.in_ok-given.given ≡ eval (between_arguments f a b) names = given ∙ ap (applied2 f (Ok (scalar_of z))) left in
    subst (λ (x : Tree). IsTreeCounted names x before after (Ok c.counted.result)) (sym made)
    (dyad_counted names f a b before before now after tt c.in_ok-left.left c.in_ok-given.given c.counted.result (literal_counted names (Numbers (z ∷ [])) before) first is c.counted.ensures.items)

pub between-returns-in-Some-number_of-2-clause-counted : goal.between-returns-in-Some-number_of-2-clause-counted
between-returns-in-Some-number_of-2-clause-counted g t c =
    let names = g.S.Shows.shows c.args.names.now in
    let f = Dyad (Scalar c.in-Some.scalar) in
    let z = c.in-Some-number_of-2.number in
    let a = Const (Numbers (z ∷ [])) in
    let b = tree_of c.args.sides.now.right in
    let before = c.args.meter.now.ticks in
    let now = c.argument-in-Some-number_of-2.new.meter.ticks in
    let after = c.counted-in-Some-number_of-2.new.meter.ticks in
    let fits : SFits w64 z = search rules in
    let same : to_z w64 (of_z w64 z) ≡ z = to_z-of_z w64 _ fits in
    let front : tree_of c.args.sides.now.left ≡ a = c.in-Some-number_of-2.ensures in
    let made : between_arguments c.args.function (tree_of c.args.sides.now.left) b ≡ between_arguments f a b = λ i. between_arguments (c.in-Some.ensures i) (front i) b in
    let first : IsTreeCounted names b before now (Ok c.in_ok-right.right) = c.in_ok-right.ensures.counted in
    let right : outcome_of c.in_ok-right.right ≡ eval b names = c.in_ok-right.ensures.value in
    let given : outcome_of c.in_ok-given-2.given ≡ applied2 f (outcome_of c.in_ok-right.right) (Ok (scalar_of z)) = rw same at c.in_ok-given-2.ensures in
    let is : outcome_of c.in_ok-given-2.given ≡ eval (between_arguments f a b) names = given ∙ ap (λ (o : Outcome). applied2 f o (Ok (scalar_of z))) right in
    subst (λ (x : Tree). IsTreeCounted names x before after (Ok c.counted-in-Some-number_of-2.result)) (sym made)
    (dyad_counted names f a b before now now after c.in_ok-right.right tt c.in_ok-given-2.given c.counted-in-Some-number_of-2.result first (literal_counted names (Numbers (z ∷ [])) now) is c.counted-in-Some-number_of-2.ensures.items)

pub between-returns-clause-counted : goal.between-returns-clause-counted
between-returns-clause-counted g t c =
    let names = g.S.Shows.shows c.args.names.now in
    let f = c.args.function in
    let a = tree_of c.args.sides.now.left in
    let b = tree_of c.args.sides.now.right in
    let before = c.args.meter.now.ticks in
    let now = c.argument-2.new.meter.ticks in
    let then_now = c.argument-3.new.meter.ticks in
    let after = c.counted-2.new.meter.ticks in
    let first : IsTreeCounted names b before now (Ok c.in_ok-right-2.right) = c.in_ok-right-2.ensures.counted in
    let second : IsTreeCounted names a now then_now (Ok c.in_ok-left-2.left) = c.in_ok-left-2.ensures.counted in
    let right : outcome_of c.in_ok-right-2.right ≡ eval b names = c.in_ok-right-2.ensures.value in
    let left : outcome_of c.in_ok-left-2.left ≡ eval a names = c.in_ok-left-2.ensures.value in
    let given : outcome_of c.in_ok-given-3.given ≡ applied2 f (outcome_of c.in_ok-right-2.right) (outcome_of c.in_ok-left-2.left) = c.in_ok-given-3.ensures in
    let is : outcome_of c.in_ok-given-3.given ≡ eval (between_arguments f a b) names =
    given ∙ ap (λ (o : Outcome). applied2 f o (outcome_of c.in_ok-left-2.left)) right ∙ ap (applied2 f (eval b names)) left ∙ sym (eval_between names f a b) in
    dyad_counted names f a b before now then_now after c.in_ok-right-2.right c.in_ok-left-2.left c.in_ok-given-3.given c.counted-2.result first second is c.counted-2.ensures.items

pub argument-returns-in_err-positions-in-Index-clause-counted : goal.argument-returns-in_err-positions-in-Index-clause-counted
argument-returns-in_err-positions-in-Index-clause-counted g t c =
    let names = g.S.Shows.shows c.args.names.now in
    let a = tree_of c.in-Index.operand.value in
    let ps = positions_of (map position_of c.in-Index.positions.items) in
    let made : tree_of c.args.tree.now ≡ Index a ps = ap tree_of c.in-Index.is ∙ tree_index c.in-Index.operand c.in-Index.positions in
    let cost = ap (cost_in names) made ∙ index_cost names a ps in
    let first : c.position_operands.new.meter.ticks ≤ c.args.meter.now.ticks + cost_in_positions names ps =
    subst (λ (xs : List (Option Expr)). c.position_operands.new.meter.ticks ≤ c.args.meter.now.ticks + cost_in_positions names (positions_of (map position_of xs))) c.deref-in-Index.ensures.value c.position_operands.ensures.counted.most in
    record { most = omega (arith, first, cost); least = search rules }

pub argument-returns-in_err-operand-in-Index-clause-counted : goal.argument-returns-in_err-operand-in-Index-clause-counted
argument-returns-in_err-operand-in-Index-clause-counted g t c =
    let names = g.S.Shows.shows c.args.names.now in
    let a = tree_of c.in-Index.operand.value in
    let ps = positions_of (map position_of c.in-Index.positions.items) in
    let made : tree_of c.args.tree.now ≡ Index a ps = ap tree_of c.in-Index.is ∙ tree_index c.in-Index.operand c.in-Index.positions in
    let cost = ap (cost_in names) made ∙ index_cost names a ps in
    let first : c.position_operands.new.meter.ticks ≤ c.args.meter.now.ticks + cost_in_positions names ps =
    subst (λ (xs : List (Option Expr)). c.position_operands.new.meter.ticks ≤ c.args.meter.now.ticks + cost_in_positions names (positions_of (map position_of xs))) c.deref-in-Index.ensures.value c.position_operands.ensures.counted.most in
    let second : c.argument.new.meter.ticks ≤ c.position_operands.new.meter.ticks + cost_in names a =
    subst (λ (e : Expr). c.argument.new.meter.ticks ≤ c.position_operands.new.meter.ticks + cost_in names (tree_of e)) c.deref-in-Index-2.ensures c.argument.ensures.counted.most in
    record { most = omega (arith, first, second, cost); least = search rules }

pub argument-returns-in_err-given-in-Index-clause-counted : goal.argument-returns-in_err-given-in-Index-clause-counted
argument-returns-in_err-given-in-Index-clause-counted g t c =
    let names = g.S.Shows.shows c.args.names.now in
    let a = tree_of c.in-Index.operand.value in
    let ps = positions_of (map position_of c.in-Index.positions.items) in
    let made : tree_of c.args.tree.now ≡ Index a ps = ap tree_of c.in-Index.is ∙ tree_index c.in-Index.operand c.in-Index.positions in
    let cost = ap (cost_in names) made ∙ index_cost names a ps in
    let first : c.position_operands.new.meter.ticks ≤ c.args.meter.now.ticks + cost_in_positions names ps =
    subst (λ (xs : List (Option Expr)). c.position_operands.new.meter.ticks ≤ c.args.meter.now.ticks + cost_in_positions names (positions_of (map position_of xs))) c.deref-in-Index.ensures.value c.position_operands.ensures.counted.most in
    let second : c.argument.new.meter.ticks ≤ c.position_operands.new.meter.ticks + cost_in names a =
    subst (λ (e : Expr). c.argument.new.meter.ticks ≤ c.position_operands.new.meter.ticks + cost_in names (tree_of e)) c.deref-in-Index-2.ensures c.argument.ensures.counted.most in
    record { most = omega (arith, first, second, cost); least = search rules }

pub argument-returns-in_ok-given-in-Index-clause-value : goal.argument-returns-in_ok-given-in-Index-clause-value
argument-returns-in_ok-given-in-Index-clause-value g t c =
    let names = g.S.Shows.shows c.args.names.now in
    let a = tree_of c.in-Index.operand.value in
    let ps = positions_of (map position_of c.in-Index.positions.items) in
    let made : tree_of c.args.tree.now ≡ Index a ps = ap tree_of c.in-Index.is ∙ tree_index c.in-Index.operand c.in-Index.positions in
    let positions : positions_in c.in_ok-positions-in-Index.positions ≡ eval_positions ps names = search rules in
    let operand : outcome_of c.in_ok-operand-in-Index.operand ≡ eval a names = search rules in
    let given : outcome_of c.in_ok-given-in-Index.given ≡ indexed (positions_in c.in_ok-positions-in-Index.positions) (outcome_of c.in_ok-operand-in-Index.operand) = c.in_ok-given-in-Index.ensures in
    ap outcome_of c.counted.ensures.same ∙ given
    ∙ ap (λ (r : Result (List Position) Fault). indexed r (outcome_of c.in_ok-operand-in-Index.operand)) positions ∙ ap (indexed (eval_positions ps names)) operand
    ∙ ap (λ (x : Tree). eval x names) (sym made)

pub argument-returns-in_ok-given-in-Index-clause-counted : goal.argument-returns-in_ok-given-in-Index-clause-counted
argument-returns-in_ok-given-in-Index-clause-counted g t c =
    let names = g.S.Shows.shows c.args.names.now in
    let a = tree_of c.in-Index.operand.value in
    let ps = positions_of (map position_of c.in-Index.positions.items) in
    let before = c.args.meter.now.ticks in
    let now = c.position_operands.new.meter.ticks in
    let then_now = c.argument.new.meter.ticks in
    let after = c.counted.new.meter.ticks in
    let made : tree_of c.args.tree.now ≡ Index a ps = ap tree_of c.in-Index.is ∙ tree_index c.in-Index.operand c.in-Index.positions in
    let first : ArePositionsCounted names ps before now (Ok c.in_ok-positions-in-Index.positions) =
    subst (λ (xs : List (Option Expr)). ArePositionsCounted names (positions_of (map position_of xs)) before now (Ok c.in_ok-positions-in-Index.positions))
    c.deref-in-Index.ensures.value c.in_ok-positions-in-Index.ensures.counted in
    let second : IsTreeCounted names a now then_now (Ok c.in_ok-operand-in-Index.operand) =
    subst (λ (e : Expr). IsTreeCounted names (tree_of e) now then_now (Ok c.in_ok-operand-in-Index.operand)) c.deref-in-Index-2.ensures c.in_ok-operand-in-Index.ensures.counted in
    let positions : positions_in c.in_ok-positions-in-Index.positions ≡ eval_positions ps names = search rules in
    let operand : outcome_of c.in_ok-operand-in-Index.operand ≡ eval a names = search rules in
    let given : outcome_of c.in_ok-given-in-Index.given ≡ indexed (positions_in c.in_ok-positions-in-Index.positions) (outcome_of c.in_ok-operand-in-Index.operand) = c.in_ok-given-in-Index.ensures in
    let is : outcome_of c.in_ok-given-in-Index.given ≡ eval (Index a ps) names =
    given ∙ ap (λ (r : Result (List Position) Fault). indexed r (outcome_of c.in_ok-operand-in-Index.operand)) positions ∙ ap (indexed (eval_positions ps names)) operand in
    subst (λ (x : Tree). IsTreeCounted names x before after (Ok c.counted.result)) (sym made)
    (index_counted names a ps before now then_now after c.in_ok-positions-in-Index.positions c.in_ok-operand-in-Index.operand c.in_ok-given-in-Index.given c.counted.result first second is c.counted.ensures.items)

pub position_operands-returns-in_err-operand-in-Some-clause-counted : goal.position_operands-returns-in_err-operand-in-Some-clause-counted
position_operands-returns-in_err-operand-in-Some-clause-counted g t c =
    let names = g.S.Shows.shows c.args.names.now in
    let ps = c.args.positions.now in
    let k = c.loop-k.k - 1 in
    let below : k < length ps = search rules in
    let next : k + 1 ≡ c.loop-k.k = search rules in
    let is : get_or ps k None ≡ Some c.in-Some.tree = there ps k c.index-positions-k.result below c.index-positions-k.is ∙ c.in-Some.is in
    record {
      most = omega (arith, c.loop-k.invariant.most, c.argument.ensures.counted.most, cost_written names ps k c.in-Some.tree below is, ap (cost_from names ps) next, cost_left names ps k);
      least = search rules;
    }

pub position_operands-returns-in-Err-clause-values : goal.position_operands-returns-in-Err-clause-values
position_operands-returns-in-Err-clause-values g t c =
    let names = g.S.Shows.shows c.args.names.now in
    let ps = c.args.positions.now in
    let k = c.loop-k.k - 1 in
    let below : k < length ps = search rules in
    let next : k + 1 ≡ c.loop-k.k = search rules in
    let is : get_or ps k None ≡ Some c.in-Some.tree = there ps k c.index-positions-k.result below c.index-positions-k.is ∙ c.in-Some.is in
    let failed : eval (tree_of c.in-Some.tree) names ≡ Err c.in-Err.fault = search rules in
    let later : Ok (map position_in c.loop-k.operands.items) ≡ eval_positions (positions_of (map position_of (drop (k + 1) ps))) names = rw next c.loop-k.invariant.so_far in
    sym (failed_at names ps k c.in-Some.tree c.in-Err.fault (map position_in c.loop-k.operands.items) below is failed later)

pub position_operands-returns-in-Err-clause-counted : goal.position_operands-returns-in-Err-clause-counted
position_operands-returns-in-Err-clause-counted g t c =
    let names = g.S.Shows.shows c.args.names.now in
    let ps = c.args.positions.now in
    let k = c.loop-k.k - 1 in
    let below : k < length ps = search rules in
    let next : k + 1 ≡ c.loop-k.k = search rules in
    let is : get_or ps k None ≡ Some c.in-Some.tree = there ps k c.index-positions-k.result below c.index-positions-k.is ∙ c.in-Some.is in
    let failed : eval (tree_of c.in-Some.tree) names ≡ Err c.in-Err.fault = search rules in
    let later : Ok (map position_in c.loop-k.operands.items) ≡ eval_positions (positions_of (map position_of (drop (k + 1) ps))) names = rw next c.loop-k.invariant.so_far in
    let all = failed_at names ps k c.in-Some.tree c.in-Err.fault (map position_in c.loop-k.operands.items) below is failed later in
    record {
      most = omega (arith, c.loop-k.invariant.most, c.argument.ensures.counted.most, cost_written names ps k c.in-Some.tree below is, ap (cost_from names ps) next, cost_left names ps k);
      least = λ h. absurd (false≢true (ap is_ok (sym all) ∙ h));
    }

pub position_operands-returns-in_err-insert-clause-counted : goal.position_operands-returns-in_err-insert-clause-counted
position_operands-returns-in_err-insert-clause-counted g t c =
    let names = g.S.Shows.shows c.args.names.now in
    let ps = c.args.positions.now in
    let k = c.loop-k.k - 1 in
    let below : k < length ps = search rules in
    let next : k + 1 ≡ c.loop-k.k = search rules in
    let at = there ps k c.index-positions-k.result below c.index-positions-k.is in
    let now : c.match-positions-k.meter.ticks ≤ c.args.meter.now.ticks + cost_from names ps k =
    elim c.match-positions-k.branch [
      | position_operands-in-Some+in_ok-operand-in-Some+in-Ok w ↦ omega (arith, c.loop-k.invariant.most, w.argument.ensures.counted.most, cost_written names ps k w.in-Some.tree below (at ∙ w.in-Some.is), ap (cost_from names ps) next, ap (λ m. m.ticks) w.meter-is)
      | position_operands-in-None w ↦ omega (arith, c.loop-k.invariant.most, cost_empty names ps k below (at ∙ w.in-None.is), ap (cost_from names ps) next, ap (λ m. m.ticks) w.meter-is)
    ] in
    record { most = omega (arith, now, cost_left names ps k); least = search rules }
