use Rattle.std.{proofs.Common.{◌≡◌, ◌≤◌, ◌+◌, ◌-◌, ◌*◌, ◌++◌, ◌∷◌, [], length, get_or, arith}, proofs.lemmas.List.{length_push}}
use Rattle.arrays_core.{specs.Shapes.{places_before}, proofs.Shapes.{turn_at, turn_ended, places_below}, proofs.Rows.{row_end}}
use Rattle.{index_region.proofs.RowIndices.{get_before, get_last}, structural_fns.proofs.index_source.row_place.Goals.{In-loop-k, After-loop-k}}
use Rattle.structural_fns.proofs.index_source.row_place.Goals as goal

-- the step over an axis that is not the last
bound : (c : In-loop-k) → c.loop-k.before * get_or c.args.axes.now c.loop-k.k 0 + (get_or c.args.row.now c.loop-k.k 0 - 1) ≤ places_before c.args.axes.now (c.args.row.now ++ 1 ∷ [])
bound c =
    let row = c.args.row.now in
    let test = c.loop-k-test.true in
    let long = length_push row 1 in
    let axes = row_end c.args.axes.now row 1 c.requires.in_range in
    let turn = turn_at c.args.axes.now (row ++ 1 ∷ []) c.loop-k.k c.loop-k.before _ (omega arith) (omega (arith, axes.long)) c.loop-k.invariant.place c.loop-k.invariant.inside in
    rw (get_before row 1 c.loop-k.k 0 (omega arith)) at turn.bound

pub overflow_mul-before : goal.overflow_mul-before
overflow_mul-before c = omega (arith, bound (goal.at.overflow_mul-before c).In-loop-k, places_below c.args.axes.now (c.args.row.now ++ 1 ∷ []) c.requires.in_range, c.requires.within.size_within)

pub overflow_add-before : goal.overflow_add-before
overflow_add-before c = omega (arith, bound (goal.at.overflow_add-before c).In-loop-k, places_below c.args.axes.now (c.args.row.now ++ 1 ∷ []) c.requires.in_range, c.requires.within.size_within)

-- the step over the last axis
last : (c : After-loop-k) → c.loop-k.before * get_or c.args.axes.now (length c.args.row.now) 0 ≡ places_before c.args.axes.now (c.args.row.now ++ 1 ∷ [])
last c =
    let row = c.args.row.now in
    let test = c.loop-k-test.false in
    let long = length_push row 1 in
    let axes = row_end c.args.axes.now row 1 c.requires.in_range in
    let ended : c.loop-k.k ≡ length row = omega (arith, c.loop-k.auto.k-end) in
    let turn = turn_at c.args.axes.now (row ++ 1 ∷ []) (length row) c.loop-k.before _ (omega arith) (omega (arith, axes.long)) (rw ended at c.loop-k.invariant.place) (rw ended at c.loop-k.invariant.inside) in
    let one : get_or (row ++ 1 ∷ []) (length row) 0 ≡ 1 = get_last row 1 0 in
    let whole = turn_ended c.args.axes.now (row ++ 1 ∷ []) (length row + 1) _ _ (omega arith) (omega (arith, axes.long)) turn.next in
    omega arith

pub overflow_mul-result : goal.overflow_mul-result
overflow_mul-result c = omega (arith, last (goal.at.overflow_mul-result c).After-loop-k, places_below c.args.axes.now (c.args.row.now ++ 1 ∷ []) c.requires.in_range, c.requires.within.size_within)

pub returns : goal.returns
returns c = last (goal.at.returns c).After-loop-k
