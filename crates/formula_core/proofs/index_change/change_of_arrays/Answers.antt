use Rattle.std.{proofs.Common.{◌≡◌, Bool, ◌∙◌, ◌+◌, ◌<◌, refl, suc, length, map, take, [], ◌∷◌, ◌++◌, List, Option, Some, None, is_some, get_or, sym, ap, subst, arith}, proofs.lemmas.List.{get_or_default, length-set, take_more_set, take_all}}
use Rattle.{arrays_core.specs.Arrays.{ArrayValue}, index_region.specs.declared.moved.Moved.{Moved}, change_rules.specs.Nodes.{Argument, AreArguments}}
use Rattle.selection_fns.specs.Index.{count_written, index_rule}
use Rattle.formula_core.{specs.declared.input.Input.{Input}, specs.declared.input.Input.TheVariants.{Good, Bad}, specs.Rules.{with_change, IsRefreshed, IsRefreshedBy}, specs.Inputs.{arrays_among, written_inputs}, proofs.Told.{told_array, told_none, told_long, told_fit}}
use Rattle.formula_core.proofs.index_change.change_of_arrays.Goals.{in-Some-Good, in-Some-Bad, in-None}
use Rattle.formula_core.proofs.index_change.change_of_arrays.Goals as goal

pub loop-position-preserved : goal.loop-position-preserved
loop-position-preserved c =
    let ps = c.args.positions.now in
    let k = c.loop-position.position-index in
    let below = c.loop-position-test.true in
    let item = get_or_default ps k None c.position-item.result below ∙ sym c.position-item.is in
    let so_far = c.loop-position.invariant in
    let seen = c.loop-position.seen in
    let moved = c.loop-position.moved in
    let count = c.loop-position.count in
    elim c.match-position.branch [
      | in-Some-Good w ↦
          let a = w.in-Some-Good.array in
          let d = w.in-Some-Good.delta in
          let field = rw w.in-Some-Good.is at w.in-Some-Good.field-0-is in
          let here : get_or ps k None ≡ Some (Good a d) = item ∙ (w.in-Some-Good.is ∙ ap (λ (i : Input). Some i) field) in
          let room : count < 5 = omega (arith, so_far.room, below, c.requires.few) in
          let seen_now = (λ i. take (w.count-is i) (w.seen-is i)) ∙ take_more_set seen count w.again-in-Some-Good.result (omega (arith, room, so_far.wide)) in
          let moved_now = (λ i. take (w.count-is i) (w.moved-is i)) ∙ take_more_set moved count w.of.result (omega (arith, room, so_far.as_wide)) in
          record {
            so_far = rw (seen_now, moved_now) (told_array ps k c.args.indexed.now a w.again-in-Some-Good.result d w.of.result (take count seen) (take count moved) below here w.again-in-Some-Good.ensures w.of.ensures so_far.so_far);
            room = omega (arith, w.count-is, so_far.room);
            wide = ap (λ (xs : List ArrayValue). length xs) w.seen-is ∙ (length-set seen count w.again-in-Some-Good.result ∙ so_far.wide);
            as_wide = ap (λ (xs : List Moved). length xs) w.moved-is ∙ (length-set moved count w.of.result ∙ so_far.as_wide);
          }
      | in-Some-Bad w ↦
          let field = rw w.in-Some-Bad.is at w.in-Some-Bad.field-0-is in
          let here : get_or ps k None ≡ Some (Bad w.in-Some-Bad.field-0-0 w.in-Some-Bad.field-0-1) = item ∙ (w.in-Some-Bad.is ∙ ap (λ (i : Input). Some i) field) in
          let same = told_none ps k (Some (Bad w.in-Some-Bad.field-0-0 w.in-Some-Bad.field-0-1)) below here refl in
          record {
            so_far = subst (λ (args : List Argument). AreArguments (take c.match-position.count c.match-position.seen) (take c.match-position.count c.match-position.moved) (c.args.indexed.now ∷ args)) same
                (rw (w.count-is, w.seen-is, w.moved-is) so_far.so_far);
            room = omega (arith, w.count-is, so_far.room);
            wide = ap (λ (xs : List ArrayValue). length xs) w.seen-is ∙ so_far.wide;
            as_wide = ap (λ (xs : List Moved). length xs) w.moved-is ∙ so_far.as_wide;
          }
      | in-None w ↦
          let here : get_or ps k None ≡ None = item ∙ w.in-None.is in
          let same = told_none ps k None below here refl in
          record {
            so_far = subst (λ (args : List Argument). AreArguments (take c.match-position.count c.match-position.seen) (take c.match-position.count c.match-position.moved) (c.args.indexed.now ∷ args)) same
                (rw (w.count-is, w.seen-is, w.moved-is) so_far.so_far);
            room = omega (arith, w.count-is, so_far.room);
            wide = ap (λ (xs : List ArrayValue). length xs) w.seen-is ∙ so_far.wide;
            as_wide = ap (λ (xs : List Moved). length xs) w.moved-is ∙ so_far.as_wide;
          }
    ]

pub of_positions-requires-clause-count : goal.of_positions-requires-clause-count
of_positions-requires-clause-count c =
    let ps = c.args.positions.now in
    let are = subst (λ (qs : List (Option Input)). AreArguments (take c.loop-position.count c.loop-position.seen) (take c.loop-position.count c.loop-position.moved) (c.args.indexed.now ∷ arrays_among (written_inputs qs)))
    (take_all c.loop-position.position-index ps (omega (arith, c.loop-position-test.false))) c.loop-position.invariant.so_far in
    (told_long _ _ _ are).0 ∙ ap suc (c.requires.count ∙ ap count_written (sym (c.as_slice.ensures ∙ c.in_ok-written.ensures)))

pub of_positions-requires-clause-fit : goal.of_positions-requires-clause-fit
of_positions-requires-clause-fit c =
    let ps = c.args.positions.now in
    let are = subst (λ (qs : List (Option Input)). AreArguments (take c.loop-position.count c.loop-position.seen) (take c.loop-position.count c.loop-position.moved) (c.args.indexed.now ∷ arrays_among (written_inputs qs)))
    (take_all c.loop-position.position-index ps (omega (arith, c.loop-position-test.false))) c.loop-position.invariant.so_far in
    told_fit _ _ _ are c.requires.fit

pub returns-clause-refreshed : goal.returns-clause-refreshed
returns-clause-refreshed c =
    let ps = c.args.positions.now in
    let are = subst (λ (qs : List (Option Input)). AreArguments (take c.loop-position.count c.loop-position.seen) (take c.loop-position.count c.loop-position.moved) (c.args.indexed.now ∷ arrays_among (written_inputs qs)))
    (take_all c.loop-position.position-index ps (omega (arith, c.loop-position-test.false))) c.loop-position.invariant.so_far in
    subst (λ (written : List Bool). IsRefreshed (index_rule written) (c.args.indexed.now ∷ arrays_among (written_inputs ps)) c.args.held.now c.args.meter.now.ticks c.of_positions.new.meter.ticks (with_change c.of_positions.new.change c.of_positions.result))
    (c.as_slice.ensures ∙ c.in_ok-written.ensures) (c.of_positions.ensures.refreshed (c.args.indexed.now ∷ arrays_among (written_inputs ps)) are)
