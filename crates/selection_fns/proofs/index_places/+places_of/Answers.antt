use Rattle.std.{proofs.Common.{◌≡◌, ℕ, ◌-◌, ◌<◌, ◌∙◌, ap, sym, subst, length, take, drop, arith, rules}, proofs.lemmas.Result.{IfOk-weaker}}
use Rattle.arrays_core.specs.Shapes.{size}
use Rattle.selection_fns.{specs.Index.{written_positions, indexed_shape}, specs.IndexPlaces.{sums, all_places, ArePlacesOf}, proofs.IndexPlaces.{IsRest, IsSumWithin, empty_rest, empty_more, empty_last, written_rest, written_some, written_more, sum_within}, proofs.Positions.{tail_of}}
use Rattle.selection_fns.proofs.index_places.+places_of.Goals.{After-places, In_ok-offsets, In_ok-offsets-2, Then-not-written}
use Rattle.selection_fns.proofs.index_places.+places_of.Goals as goal

pub returns-then-axes-ge-LEAST_ROW : goal.returns-then-axes-ge-LEAST_ROW
returns-then-axes-ge-LEAST_ROW t c =
    let written = c.args.written.now in
    let some : 0 < length written = search rules in
    let none : length (take (length c.args.axes.now - 1) (drop 1 c.args.axes.now)) ≡ 0 = search rules in
    IfOk-weaker c.run.result (λ p. all_places p ≡ _) (λ p. ArePlacesOf c.args.axes.now (written_positions written c.args.positions.now) (all_places p))
    (λ p e. empty_last c.args.axes.now written c.args.positions.now (all_places p) c.requires.one_an_axis some c.if-not-written.true (rw tail_of at none) e) c.run.ensures

-- ---- the first axis is taken whole

-- the axes after it
rest_of_whole : (t : ℕ) (c : Then-not-written t) → IsRest c.args.axes.now c.args.written.now c.args.positions.now (size (indexed_shape c.args.axes.now (written_positions c.args.written.now c.args.positions.now)))
rest_of_whole t c =
    empty_rest c.args.axes.now c.args.written.now c.args.positions.now c.requires.within c.requires.one_an_axis c.requires.long c.requires.on c.requires.some (search rules) c.if-not-written.true

-- the places of all axes
whole_more : (t : ℕ) (c : In_ok-offsets t) → ArePlacesOf c.args.axes.now (written_positions c.args.written.now c.args.positions.now) (sums c.in_ok-offsets.offsets.items (all_places c.in_ok-rest.rest))
whole_more t c =
    let axes = c.args.axes.now in
    let written = c.args.written.now in
    let places = all_places c.in_ok-rest.rest in
    empty_more axes written c.args.positions.now c.size.result c.in_ok-offsets.offsets.items places c.requires.one_an_axis (search rules) c.if-not-written.true
    (c.size.ensures ∙ ap size (tail_of axes)) c.in_ok-offsets.ensures (rw (tail_of axes, tail_of written) at c.in_ok-rest.ensures)

-- the bounds of their sums
whole_within : (t : ℕ) (c : In_ok-offsets t) → IsSumWithin c.in_ok-offsets.offsets.items (all_places c.in_ok-rest.rest) 1048576
whole_within t c = sum_within c.args.axes.now _ _ _ (whole_more t c) c.requires.within c.requires.few

pub places_of-requires : goal.places_of-requires
places_of-requires t c =
    let some : 0 < length c.args.written.now = search rules in
    let rest = rest_of_whole t (goal.at.places_of-requires t c).Then-not-written in
    rw (tail_of c.args.axes.now, tail_of c.args.written.now) ((search rules, (rest.within, (rest.one_an_axis, (rest.long, (rest.on, (rest.some, omega (arith, rest.few))))))))

pub size-requires : goal.size-requires
size-requires t c = rw tail_of (rest_of_whole t (goal.at.size-requires t c).Then-not-written).within

pub moved-requires-clause-few : goal.moved-requires-clause-few
moved-requires-clause-few t c = (whole_within t (goal.at.moved-requires-clause-few t c).In_ok-offsets).few

pub moved-requires-clause-fit : goal.moved-requires-clause-fit
moved-requires-clause-fit t c = (whole_within t (goal.at.moved-requires-clause-fit t c).In_ok-offsets).fit

pub returns-then-not-written : goal.returns-then-not-written
returns-then-not-written t c =
    let positions = written_positions c.args.written.now c.args.positions.now in
    IfOk-weaker c.moved.result (λ p. all_places p ≡ sums c.in_ok-offsets.offsets.items (all_places c.in_ok-rest.rest)) (λ p. ArePlacesOf c.args.axes.now positions (all_places p))
    (λ p e. subst (ArePlacesOf c.args.axes.now positions) (sym e) (whole_more t (goal.at.returns-then-not-written t c).In_ok-offsets)) c.moved.ensures

-- ---- a position is written for the first axis

pub prove-unreachable-requires : goal.prove-unreachable-requires
prove-unreachable-requires t c =
    let axes = c.args.axes.now in
    let p = c.index-positions-0.result in
    let some = written_some axes c.args.written.now c.args.positions.now p c.requires.one_an_axis c.requires.long c.requires.some c.if-not-written.false c.index-positions-0.is in
    omega arith

-- the axes after it, and the other positions
rest_of_written : (t : ℕ) (c : After-places t)
    → IsRest c.args.axes.now c.args.written.now (drop 1 c.args.positions.now) (size (indexed_shape c.args.axes.now (written_positions c.args.written.now c.args.positions.now)))
rest_of_written t c =
    written_rest c.args.axes.now c.args.written.now c.args.positions.now c.index-positions-0.result c.requires.within c.requires.one_an_axis c.requires.long c.requires.on c.requires.some
    c.if-not-written.false c.index-positions-0.is c.places.ensures.sound

-- the places of all axes
written_places : (t : ℕ) (c : In_ok-offsets-2 t)
    → ArePlacesOf c.args.axes.now (written_positions c.args.written.now c.args.positions.now) (sums c.in_ok-offsets-2.offsets.items (all_places c.in_ok-rest-2.rest))
written_places t c =
    let axes = c.args.axes.now in
    written_more axes c.args.written.now c.args.positions.now c.index-positions-0.result c.size-2.result c.in_ok-offsets-2.offsets.items (all_places c.in_ok-rest-2.rest)
    c.requires.one_an_axis c.requires.long c.requires.on c.if-not-written.false c.index-positions-0.is c.places.ensures.sound
    (c.size-2.ensures ∙ ap size (tail_of axes)) c.in_ok-offsets-2.ensures (rw (tail_of axes, tail_of c.args.written.now, tail_of c.args.positions.now) at c.in_ok-rest-2.ensures)

-- the bounds of their sums
written_within : (t : ℕ) (c : In_ok-offsets-2 t) → IsSumWithin c.in_ok-offsets-2.offsets.items (all_places c.in_ok-rest-2.rest) 1048576
written_within t c = sum_within c.args.axes.now _ _ _ (written_places t c) c.requires.within c.requires.few

pub places_of-requires-2 : goal.places_of-requires-2
places_of-requires-2 t c =
    let rest = rest_of_written t (goal.at.places_of-requires-2 t c).After-places in
    rw (tail_of c.args.axes.now, tail_of c.args.written.now, tail_of c.args.positions.now)
    ((search rules, (rest.within, (rest.one_an_axis, (rest.long, (rest.on, (rest.some, omega (arith, rest.few))))))))

pub size-requires-2 : goal.size-requires-2
size-requires-2 t c = rw tail_of (rest_of_written t (goal.at.size-requires-2 t c).After-places).within

pub moved-requires-2-clause-some : goal.moved-requires-2-clause-some
moved-requires-2-clause-some t c =
    let found = rw (tail_of c.args.axes.now, tail_of c.args.written.now, tail_of c.args.positions.now) at c.in_ok-rest-2.ensures in
    omega (arith, found.as_many, (rest_of_written t (goal.at.moved-requires-2-clause-some t c).After-places).some)

pub moved-requires-2-clause-few : goal.moved-requires-2-clause-few
moved-requires-2-clause-few t c = (written_within t (goal.at.moved-requires-2-clause-few t c).In_ok-offsets-2).few

pub moved-requires-2-clause-fit : goal.moved-requires-2-clause-fit
moved-requires-2-clause-fit t c = (written_within t (goal.at.moved-requires-2-clause-fit t c).In_ok-offsets-2).fit

pub returns : goal.returns
returns t c =
    let positions = written_positions c.args.written.now c.args.positions.now in
    IfOk-weaker c.moved-2.result (λ p. all_places p ≡ sums c.in_ok-offsets-2.offsets.items (all_places c.in_ok-rest-2.rest)) (λ p. ArePlacesOf c.args.axes.now positions (all_places p))
    (λ p e. subst (ArePlacesOf c.args.axes.now positions) (sym e) (written_places t (goal.at.returns t c).In_ok-offsets-2)) c.moved-2.ensures
