use Rattle.std.{proofs.Common.{◌≡◌, ◌-◌, ◌<◌, ap, sym, ◌∙◌, length, get_or, pos, arith, Ok, ◌++◌, ◌∷◌, [], min, w64, to_z, of_z, rules}, proofs.lemmas.Result.{on_ok_weaker}}
use Rattle.{arrays_core.{specs.Building.{listed}, specs.Items.{fill}}, index_region.{specs.Arguments.{numbers}, proofs.Passing.{two_arguments}}}
use Rattle.structural_fns.{specs.AxisCounts.{counted_shape}, proofs.Counting.{count_read}, proofs.TakenRows.{TakenRow, taken_row, fill_row, row_of_first, row_of_last, last_on_axis}, proofs.take.TakeRowPrimitive.extend_row.Goals.{After-min-kept, After-number}}
use Rattle.structural_fns.proofs.take.TakeRowPrimitive.extend_row.Goals as goal

-- there are two arguments
two : (c : After-min-kept) → c.args.args.now ≡ c.index-args-0.result ∷ c.index-args-1.result ∷ []
two c = two_arguments c.args.args.now c.index-args-0.result c.index-args-1.result c.requires.arguments c.index-args-0.is c.index-args-1.is

-- the row to append
known : (c : After-min-kept) → TakenRow c.index-args-0.result c.index-args-1.result c.args.row.now c.args.count c.args.items.now.item_type
known c = taken_row _ _ _ _ _ (rw (two c) at c.requires.row)

-- the number of its places that are on the last axis
kept : (c : After-min-kept) → c.min-kept.result ≡ min (get_or (counted_shape c.index-args-0.result c.index-args-1.result) (length c.args.row.now) 0) c.args.count
kept c = let axes = c.deref.ensures ∙ c.counted_shape-axes.ensures.is in rw axes at c.min-kept.ensures

-- the count of the last axis
read : (c : After-number) → get_or (numbers c.index-args-0.result) (length c.args.row.now) (pos 0) ≡ to_z w64 (of_z w64 c.number.result)
read c = sym (count_read c.index-args-0.result _ (length c.args.row.now) (search rules) c.number.ensures)

pub returns-then-kept-eq0-clause-items : goal.returns-then-kept-eq0-clause-items
returns-then-kept-eq0-clause-items c =
    let here = (goal.at.returns-then-kept-eq0-clause-items c).After-min-kept in
    let put = c.fill-fill.ensures ∙ ap fill c.item_type.ensures.is in
    rw (two here) (on_ok_weaker c.extend_with.result
    (λ e. fill_row _ _ _ _ _ (known here) c.min-kept.result c.args.items.now.items c.fill-fill.result (kept here) c.if-kept-eq0.true put ∙ ap (λ xs. Ok xs) (sym e)) c.extend_with.ensures.items)

pub returns-then-number-ge0-clause-items : goal.returns-then-number-ge0-clause-items
returns-then-number-ge0-clause-items c =
    let here = (goal.at.returns-then-number-ge0-clause-items c).After-min-kept in
    let put = c.fill-fill.ensures ∙ ap fill c.item_type.ensures.is in
    let made = row_of_first _ _ _ _ _ (known here) c.args.items.now.items c.extend_kept.new.items.items _ c.min-kept.result (read (goal.at.returns-then-number-ge0-clause-items c).After-number) c.if-number-ge0.true (kept here)
    c.in_ok-extend_kept.ensures.items in
    rw (two here) (on_ok_weaker c.extend_with-then-number-ge0.result
    (λ e. made ∙ ap (λ x. Ok (c.extend_kept.new.items.items ++ listed (c.args.count - c.min-kept.result) (λ k. x))) (sym put) ∙ ap (λ xs. Ok xs) (sym e)) c.extend_with-then-number-ge0.ensures.items)

pub extend_kept-requires-else-number-ge0-clause-axis : goal.extend_kept-requires-else-number-ge0-clause-axis
extend_kept-requires-else-number-ge0-clause-axis c =
    let here = (goal.at.extend_kept-requires-else-number-ge0-clause-axis c).After-min-kept in
    let some : 0 < c.min-kept.result = let not_none = c.if-kept-eq0.false in omega arith in
    last_on_axis _ _ _ _ _ (known here) _ c.min-kept.result (read (goal.at.extend_kept-requires-else-number-ge0-clause-axis c).After-number) c.if-number-ge0.false some (kept here)

pub returns-clause-items : goal.returns-clause-items
returns-clause-items c =
    let here = (goal.at.returns-clause-items c).After-min-kept in
    let put = c.fill-fill.ensures ∙ ap fill c.item_type.ensures.is in
    let put_first = c.in_ok-extend_with.ensures.items ∙ ap (λ x. c.args.items.now.items ++ listed (c.args.count - c.min-kept.result) (λ k. x)) put in
    rw (two here) (on_ok_weaker c.extend_kept-else-number-ge0.result
    (λ e. row_of_last _ _ _ _ _ (known here) c.args.items.now.items c.extend_kept-else-number-ge0.new.items.items _ c.min-kept.result (read (goal.at.returns-clause-items c).After-number) c.if-number-ge0.false (kept here)
    (rw put_first at e)) c.extend_kept-else-number-ge0.ensures.items)
