use Rattle.{std.proofs.Common.{◌+◌, ap, sym, ◌∙◌, get_or, arith, Ok, ◌++◌, ◌∷◌, []}, arrays_core.{specs.Items.{fill}, proofs.Rows.{row_put}}}
use Rattle.structural_fns.{specs.Take.{take_item}, proofs.TakenRows.{KeptRow, taken_long, counted_limits, kept_row, kept_fill}, proofs.take.Take.extend_kept.Goals.{In-Some}}
use Rattle.structural_fns.proofs.take.Take.extend_kept.Goals as goal

pub overflow_add-before : goal.overflow_add-before
overflow_add-before c = omega (arith, c.requires.room, c.requires.some)

pub place_in_row-requires-clause-axes_within : goal.place_in_row-requires-clause-axes_within
place_in_row-requires-clause-axes_within c =
    let long = taken_long c.args.counts.now c.args.array.now c.args.row.now (c.args.before + 1) c.requires.place in
    rw c.requires.counted (counted_limits c.args.counts.now c.args.array.now c.shape-sound.ensures.sound (omega (arith, long.axes, c.requires.rank)))

-- the taken items begin at this place
kept_here : (c : In-Some) → KeptRow c.args.counts.now c.args.array.now c.args.row.now c.args.before c.args.kept c.in-Some.place
kept_here c =
    let long = taken_long c.args.counts.now c.args.array.now c.args.row.now (c.args.before + 1) c.requires.place in
    kept_row c.args.counts.now c.args.array.now c.args.row.now long.axes long.counts c.args.before c.args.kept c.requires.axis c.in-Some.place
    (rw c.requires.counted at c.in-Some.ensures)

pub extend_run-requires-clause-inside : goal.extend_run-requires-clause-inside
extend_run-requires-clause-inside c = (kept_here (goal.at.extend_run-requires-clause-inside c).In-Some).inside c.requires.some c.shape-sound.ensures.sound

pub returns-in-Some-clause-items : goal.returns-in-Some-clause-items
returns-in-Some-clause-items c =
    row_put c.extend_run.result c.args.items.now.items c.extend_run.new.items.items (λ i. take_item c.args.counts.now c.args.array.now (c.args.row.now ++ (c.args.before + i) ∷ []))
    (λ k. get_or c.args.array.now.items (c.in-Some.place + k) (fill c.args.array.now.item_type)) c.args.kept (kept_here (goal.at.returns-in-Some-clause-items c).In-Some).item c.extend_run.ensures.items

pub returns-in-None-clause-items : goal.returns-in-None-clause-items
returns-in-None-clause-items c =
    let a = c.args.counts.now in
    let b = c.args.array.now in
    let row = c.args.row.now in
    let long = taken_long a b row (c.args.before + 1) c.requires.place in
    let put = c.fill.ensures ∙ ap fill c.item_type.ensures.is in
    row_put c.extend_with.result c.args.items.now.items c.extend_with.new.self.items (λ i. take_item a b (row ++ (c.args.before + i) ∷ [])) (λ k. c.fill.result) c.args.kept
    (λ j h. kept_fill a b row long.axes long.counts c.args.before c.args.kept c.requires.axis (rw c.requires.counted at c.in-None.ensures) j h ∙ ap (λ x. Ok x) (sym put))
    c.extend_with.ensures.items
