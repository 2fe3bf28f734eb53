use Rattle.std.proofs.Common.{ℕ, ◌+◌, ◌-◌, ap, sym, ◌∙◌, get_or, length, arith, Ok, ◌++◌, ◌∷◌, []}
use Rattle.arrays_core.{specs.Items.{fill}, proofs.Rows.{row_put_more, with_row_none, with_row_more}}
use Rattle.structural_fns.{specs.Rotate.{rotate_item}, proofs.RotatedRows.{TurnedLine, passed_row, turned_line}, proofs.rotate.Rotate.extend_turned.Goals.{After-deref}}
use Rattle.structural_fns.proofs.rotate.Rotate.extend_turned.Goals as goal

-- the row to append
line : (c : After-deref) → TurnedLine c.args.self.along c.args.amounts.now c.args.array.now c.args.row.now c.args.count c.places_before-place.result (get_or c.deref.result.now (length c.args.row.now) 0)
line c =
    turned_line c.args.self.along c.args.amounts.now c.args.array.now c.args.row.now c.args.count c.args.items.now.item_type c.requires.row c.requires.last _ c.deref.result.now
    (rw (c.shape-shape.ensures.is, c.as_slice-2.ensures, c.place_of-at.ensures.is, c.as_slice.ensures, c.index_in_row-first.ensures.is) at c.places_before-place.ensures.is)
    (c.deref.ensures ∙ rw (c.as_slice.ensures, c.index_in_row-first.ensures.is) at c.place_of-at.ensures.is) c.shape-shape.ensures.sound

pub overflow_sub-count : goal.overflow_sub-count
overflow_sub-count c = let high = (line (goal.at.overflow_sub-count c).After-deref).high in omega arith

pub extend_run-requires-clause-typed : goal.extend_run-requires-clause-typed
extend_run-requires-clause-typed c =
    (passed_row c.args.self.along c.args.amounts.now c.args.array.now c.args.row.now c.args.count c.args.items.now.item_type c.requires.row).typed

pub extend_run-requires-clause-inside : goal.extend_run-requires-clause-inside
extend_run-requires-clause-inside c = (line (goal.at.extend_run-requires-clause-inside c).After-deref).fits

pub overflow_sub-place : goal.overflow_sub-place
overflow_sub-place c = (line (goal.at.overflow_sub-place c).After-deref).there

pub extend_run-requires-2-clause-typed : goal.extend_run-requires-2-clause-typed
extend_run-requires-2-clause-typed c =
    (passed_row c.args.self.along c.args.amounts.now c.args.array.now c.args.row.now c.args.count c.args.items.now.item_type c.requires.row).typed ∙ sym c.in_ok-extend_run.ensures.typed

pub extend_run-requires-2-clause-inside : goal.extend_run-requires-2-clause-inside
extend_run-requires-2-clause-inside c = let here = line (goal.at.extend_run-requires-2-clause-inside c).After-deref in omega (arith, here.there, here.fits)

pub returns-clause-items : goal.returns-clause-items
returns-clause-items c =
    let here = line (goal.at.returns-clause-items c).After-deref in
    let b = c.args.array.now in
    let old = c.args.items.now.items in
    let rule = λ (i : ℕ). rotate_item c.args.self.along c.args.amounts.now b (c.args.row.now ++ i ∷ []) in
    let before : ℕ = get_or c.deref.result.now (length c.args.row.now) 0 - 1 in
    row_put_more c.extend_run-2.result old c.extend_run.new.items.items c.extend_run-2.new.items.items rule
    (λ k. get_or b.items (c.places_before-place.result - before + k) (fill b.item_type)) (c.args.count - before) before c.args.count (omega (arith, here.low, here.high)) here.begin_item
    (with_row_more old old rule (λ k. get_or b.items (c.places_before-place.result + k) (fill b.item_type)) 0 (c.args.count - before) (c.args.count - before) (omega arith) here.end_item (with_row_none old rule)
    ∙ ap (λ xs. Ok xs) (sym c.in_ok-extend_run.ensures.items))
    c.extend_run-2.ensures.items
