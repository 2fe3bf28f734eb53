use Rattle.std.proofs.Common.{◌+◌, ◌-◌, ap, sym, ◌∙◌, get_or, arith, Ok, ◌++◌, ◌∷◌, []}
use Rattle.{arrays_core.{specs.Items.{fill}, proofs.Rows.{row_put}}}
use Rattle.structural_fns.{specs.Reverse.{reverse_item}, proofs.ReversedRows.{below_last, inside_at, last_item, last_place, last_fits, other_item, other_fits, other_list, other_on}}
use Rattle.structural_fns.proofs.reverse.ReversedArrayRowFunction.extend_row.Goals as goal

-- ---- along the last axis

pub overflow_add-first : goal.overflow_add-first
overflow_add-first c =
    let r = c.args.self.now in
    let place = rw r.axes_are at c.row_place-first.ensures in
    omega (
      arith,
      place,
      r.sound.one_item_a_place,
      r.sound.within.size_within,
      last_fits r.reverse.along r.array.now c.args.row.now c.args.count r.passed c.requires.row (sym r.axis_is ∙ c.if-axis-row.true) r.sound,
    )

pub extend_back-requires-clause-high : goal.extend_back-requires-clause-high
extend_back-requires-clause-high c =
    let r = c.args.self.now in
    let place = rw r.axes_are at c.row_place-first.ensures in
    λ some. omega (arith, place, last_fits r.reverse.along r.array.now c.args.row.now c.args.count r.passed c.requires.row (sym r.axis_is ∙ c.if-axis-row.true) r.sound)

pub returns-then-axis-row-clause-items : goal.returns-then-axis-row-clause-items
returns-then-axis-row-clause-items c =
    let r = c.args.self.now in
    let b = r.array.now in
    let last = sym r.axis_is ∙ c.if-axis-row.true in
    let place = rw r.axes_are at c.row_place-first.ensures in
    let end = last_place r.reverse.along b c.args.row.now c.args.count r.passed c.requires.row last in
    row_put c.extend_back.result c.args.items.now.items c.extend_back.new.items.items (λ i. reverse_item r.reverse.along b (c.args.row.now ++ i ∷ []))
    (λ k. get_or b.items (c.row_place-first.result + (c.args.count - 1) - k) (fill b.item_type)) c.args.count
    (λ j h. last_item r.reverse.along b c.args.row.now c.args.count r.passed c.requires.row last j h ∙ ap (λ k. Ok (get_or b.items k (fill b.item_type))) (omega (arith, place, end)))
    c.extend_back.ensures.items

-- ---- along another axis

pub overflow_sub-index : goal.overflow_sub-index
overflow_sub-index c =
    let r = c.args.self.now in
    rw r.axis_is (other_on r.reverse.along r.array.now c.args.row.now c.args.count r.passed c.requires.row (below_last r.reverse.along r.array.now c.args.row.now c.args.count r.passed c.requires.row r.axis r.axis_is c.if-axis-row.false)).low

pub overflow_sub-index-2 : goal.overflow_sub-index-2
overflow_sub-index-2 c =
    let r = c.args.self.now in
    let on = other_on r.reverse.along r.array.now c.args.row.now c.args.count r.passed c.requires.row (below_last r.reverse.along r.array.now c.args.row.now c.args.count r.passed c.requires.row r.axis r.axis_is c.if-axis-row.false) in
    rw (r.axes_are, r.axis_is) (omega (arith, on.high))

pub place_of-first-requires-clause-in_range : goal.place_of-first-requires-clause-in_range
place_of-first-requires-clause-in_range c =
    let r = c.args.self.now in
    let before = below_last r.reverse.along r.array.now c.args.row.now c.args.count r.passed c.requires.row r.axis r.axis_is c.if-axis-row.false in
    rw (r.axes_are, r.axis_is, other_list r.reverse.along r.array.now c.args.row.now c.args.count r.passed c.requires.row before)
    (inside_at r.reverse.along r.array.now c.args.row.now c.args.count r.passed c.requires.row 0 c.requires.row.some)

pub extend_run-requires-clause-inside : goal.extend_run-requires-clause-inside
extend_run-requires-clause-inside c =
    let r = c.args.self.now in
    let before = below_last r.reverse.along r.array.now c.args.row.now c.args.count r.passed c.requires.row r.axis r.axis_is c.if-axis-row.false in
    let place = rw (r.axes_are, r.axis_is, other_list r.reverse.along r.array.now c.args.row.now c.args.count r.passed c.requires.row before) at c.place_of-first.ensures in
    omega (arith, place, other_fits r.reverse.along r.array.now c.args.row.now c.args.count r.passed c.requires.row before r.sound)

pub returns-clause-items : goal.returns-clause-items
returns-clause-items c =
    let r = c.args.self.now in
    let b = r.array.now in
    let before = below_last r.reverse.along r.array.now c.args.row.now c.args.count r.passed c.requires.row r.axis r.axis_is c.if-axis-row.false in
    let place = rw (r.axes_are, r.axis_is, other_list r.reverse.along b c.args.row.now c.args.count r.passed c.requires.row before) at c.place_of-first.ensures in
    row_put c.extend_run.result c.args.items.now.items c.extend_run.new.items.items (λ i. reverse_item r.reverse.along b (c.args.row.now ++ i ∷ []))
    (λ k. get_or b.items (c.place_of-first.result + k) (fill b.item_type)) c.args.count
    (λ j h. other_item r.reverse.along b c.args.row.now c.args.count r.passed c.requires.row before j h ∙ ap (λ k. Ok (get_or b.items k (fill b.item_type))) (ap (λ m. m + j) (sym place)))
    c.extend_run.ensures.items
