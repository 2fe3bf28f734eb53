use Rattle.std.{proofs.Common.{◌≡◌, ◌≢◌, ◌<◌, ap, sym, ◌∙◌, length, Ok, ◌∷◌, [], arith}, proofs.lemmas.Result.{on_ok_weaker}, proofs.lemmas.List.{get_or_append_left, get_or_push}}
use Rattle.{function_names.specs.Axes.{axis_at}, index_region.proofs.Passing.{two_arguments}}
use Rattle.structural_fns.{specs.Catenate.{joined_places}, proofs.JoinedRows.{IsJoinedRow, axis_below, places_within, left_inside, right_inside, left_is_typed, right_is_typed, row_of_both, row_of_left, row_of_right}, proofs.catenate.CatenateRowPrimitive.extend_row.Goals.{After-joined_places-places}}
use Rattle.structural_fns.proofs.catenate.CatenateRowPrimitive.extend_row.Goals as goal

-- there are two arguments
two : (c : After-joined_places-places) → c.args.args.now ≡ c.index-args-0.result ∷ c.index-args-1.result ∷ []
two c = two_arguments c.args.args.now c.index-args-0.result c.index-args-1.result c.requires.arguments c.index-args-0.is c.index-args-1.is

-- the row to append
joined : (c : After-joined_places-places)
    → IsJoinedRow c.args.self.now.along c.index-args-0.result c.index-args-1.result c.args.row.now c.args.count c.args.items.now.item_type c.axis_at-axis.result c.joined_places-places.result
joined c =
    record {
      meant = c.axis_at-axis.ensures.is ∙ ap (λ n. axis_at n c.args.self.now.along) c.joined_rank-rank.ensures.is;
      as_many = c.joined_places-places.ensures.is ∙ ap (λ n. joined_places n c.axis_at-axis.result c.index-args-0.result) c.joined_rank-rank.ensures.is;
      below = let on = c.axis_at-axis.ensures.below c.joined_rank-rank.ensures.low in omega (arith, c.joined_rank-rank.ensures.is, on);
      row_in = rw (two c) at c.requires.row;
    }

-- a row across the axis has one place on it
on_axis : (c : After-joined_places-places) → c.axis_at-axis.result ≢ length c.args.row.now → c.axis_at-axis.result < length c.args.row.now
on_axis c differ = let low = axis_below (joined c) in omega arith

pub extend_side-requires-clause-inside : goal.extend_side-requires-clause-inside
extend_side-requires-clause-inside c =
    let row_is = joined (goal.at.extend_side-requires-clause-inside c).After-joined_places-places in
    let fits = places_within row_is c.if-axis-row.true in
    λ i low high. left_inside row_is i (omega arith) (omega arith) (let e = get_or_push c.args.row.now i 0 c.axis_at-axis.result (sym c.if-axis-row.true) in omega arith)

pub extend_side-requires-clause-typed : goal.extend_side-requires-clause-typed
extend_side-requires-clause-typed c = left_is_typed (joined (goal.at.extend_side-requires-clause-typed c).After-joined_places-places)

pub overflow_sub-count : goal.overflow_sub-count
overflow_sub-count c = places_within (joined (goal.at.overflow_sub-count c).After-joined_places-places) c.if-axis-row.true

pub extend_side-requires-then-axis-row-clause-inside : goal.extend_side-requires-then-axis-row-clause-inside
extend_side-requires-then-axis-row-clause-inside c =
    let row_is = joined (goal.at.extend_side-requires-then-axis-row-clause-inside c).After-joined_places-places in
    let fits = places_within row_is c.if-axis-row.true in
    λ i low high. right_inside row_is i (omega arith) (omega arith) (let e = get_or_push c.args.row.now i 0 c.axis_at-axis.result (sym c.if-axis-row.true) in omega arith)

pub extend_side-requires-then-axis-row-clause-typed : goal.extend_side-requires-then-axis-row-clause-typed
extend_side-requires-then-axis-row-clause-typed c = λ some. right_is_typed (joined (goal.at.extend_side-requires-then-axis-row-clause-typed c).After-joined_places-places) some ∙ sym c.in_ok-extend_side.ensures.typed

pub returns-then-axis-row-clause-items : goal.returns-then-axis-row-clause-items
returns-then-axis-row-clause-items c =
    let here = (goal.at.returns-then-axis-row-clause-items c).After-joined_places-places in
    rw (two here) (on_ok_weaker c.extend_side-then-axis-row.result
    (λ e. row_of_both (joined here) c.args.items.now.items c.extend_side.new.items.items c.if-axis-row.true c.in_ok-extend_side.ensures.items ∙ ap (λ xs. Ok xs) (sym e)) c.extend_side-then-axis-row.ensures.items)

pub bounds-row-axis : goal.bounds-row-axis
bounds-row-axis c = on_axis (goal.at.bounds-row-axis c).After-joined_places-places c.if-axis-row.false

pub extend_side-requires-then-row-axis-clause-axis : goal.extend_side-requires-then-row-axis-clause-axis
extend_side-requires-then-row-axis-clause-axis c = axis_below (joined (goal.at.extend_side-requires-then-row-axis-clause-axis c).After-joined_places-places)

pub extend_side-requires-then-row-axis-clause-inside : goal.extend_side-requires-then-row-axis-clause-inside
extend_side-requires-then-row-axis-clause-inside c =
    let here = (goal.at.extend_side-requires-then-row-axis-clause-inside c).After-joined_places-places in
    let other = on_axis here c.if-axis-row.false in
    λ i low high. left_inside (joined here) i (omega arith) (omega arith) (let e = get_or_append_left c.args.row.now (i ∷ []) 0 c.axis_at-axis.result other in let test = c.if-row-axis.true in omega arith)

pub extend_side-requires-then-row-axis-clause-typed : goal.extend_side-requires-then-row-axis-clause-typed
extend_side-requires-then-row-axis-clause-typed c = left_is_typed (joined (goal.at.extend_side-requires-then-row-axis-clause-typed c).After-joined_places-places)

pub extend_side-requires-else-row-axis-clause-inside : goal.extend_side-requires-else-row-axis-clause-inside
extend_side-requires-else-row-axis-clause-inside c =
    let here = (goal.at.extend_side-requires-else-row-axis-clause-inside c).After-joined_places-places in
    let other = on_axis here c.if-axis-row.false in
    λ i low high. right_inside (joined here) i (omega arith) (omega arith) (let e = get_or_append_left c.args.row.now (i ∷ []) 0 c.axis_at-axis.result other in let test = c.if-row-axis.false in omega arith)

pub extend_side-requires-else-row-axis-clause-typed : goal.extend_side-requires-else-row-axis-clause-typed
extend_side-requires-else-row-axis-clause-typed c = right_is_typed (joined (goal.at.extend_side-requires-else-row-axis-clause-typed c).After-joined_places-places)

pub returns-then-row-axis-clause-items : goal.returns-then-row-axis-clause-items
returns-then-row-axis-clause-items c =
    let here = (goal.at.returns-then-row-axis-clause-items c).After-joined_places-places in
    rw (two here) (on_ok_weaker c.extend_side-then-row-axis.result
    (λ e. row_of_left (joined here) c.args.items.now.items (on_axis here c.if-axis-row.false) c.if-row-axis.true ∙ ap (λ xs. Ok xs) (sym e)) c.extend_side-then-row-axis.ensures.items)

pub returns-else-row-axis-clause-items : goal.returns-else-row-axis-clause-items
returns-else-row-axis-clause-items c =
    let here = (goal.at.returns-else-row-axis-clause-items c).After-joined_places-places in
    rw (two here) (on_ok_weaker c.extend_side-else-row-axis.result
    (λ e. row_of_right (joined here) c.args.items.now.items (on_axis here c.if-axis-row.false) c.if-row-axis.false ∙ ap (λ xs. Ok xs) (sym e)) c.extend_side-else-row-axis.ensures.items)
