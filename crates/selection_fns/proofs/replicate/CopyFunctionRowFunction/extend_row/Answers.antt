use Rattle.std.proofs.Common.{◌≡◌, ◌+◌, ◌-◌, ap, ◌∙◌, length, get_or, arith, Ok, ◌++◌, ◌∷◌, []}
use Rattle.{arrays_core.{specs.Items.{fill}, specs.Shapes.{places_before}, proofs.Rows.{row_put}}, function_names.specs.Axes.{axis_at}}
use Rattle.selection_fns.{specs.Replicate.{replicate_item}, proofs.CopiedRows.{IsCopyRow, copied, first_copied, before_last, other_item, other_fits, as_many, first_before, last_item, last_fits}, proofs.replicate.CopyFunctionRowFunction.extend_row.Goals.{After-axis_at}}
use Rattle.selection_fns.proofs.replicate.CopyFunctionRowFunction.extend_row.Goals as goal

-- the row that is written
row_is : (c : After-axis_at)
    → IsCopyRow c.args.self.now.replicate.along c.args.self.now.counts.now c.args.self.now.array.now c.args.self.now.shape.now.items c.args.self.now.before.now c.args.row.now c.args.count c.axis_at.result
row_is c =
    let self = c.args.self.now in
    let axis = c.axis_at.ensures.is ∙ ap (λ n. axis_at n self.replicate.along) (c.len.ensures.value ∙ ap length c.shape-axes.ensures.is) in
    record { some = omega (arith, self.rank); axis = axis; form = self.form; long = self.long; is = self.is; row_of = c.requires.row }

-- the place that its first copy is of
place_is : (c : After-axis_at) → c.places_before-place.result ≡ places_before c.args.self.now.array.now.shape (copied _ _ _ _ _ _ _ _ (row_is c) 1)
place_is c =
    let at : c.index_of-at.result.items ≡ copied _ _ _ _ _ _ _ _ (row_is c) 1 =
    first_copied _ _ _ _ _ _ _ _ (row_is c) c.index_of-at.result.items (rw (c.as_slice.ensures, c.index_in_row-first.ensures.is) at c.index_of-at.ensures.is) in
    rw (c.shape-axes.ensures.is, c.as_slice-2.ensures, at) at c.places_before-place.ensures.is

pub bounds-self-0 : goal.bounds-self-0
bounds-self-0 c = omega (arith, c.requires.row.some, as_many _ _ _ _ _ _ _ _ (row_is (goal.at.bounds-self-0 c).After-axis_at) c.if-axis_at-row.true)

pub overflow_sub-place : goal.overflow_sub-place
overflow_sub-place c =
    let here = (goal.at.overflow_sub-place c).After-axis_at in
    omega (arith, place_is here, first_before _ _ _ _ _ _ _ _ (row_is here) c.if-axis_at-row.true)

pub extend_places-requires-clause-inside : goal.extend_places-requires-clause-inside
extend_places-requires-clause-inside c = λ j h.
    let here = (goal.at.extend_places-requires-clause-inside c).After-axis_at in
    omega (arith, place_is here, last_fits _ _ _ _ _ _ _ _ (row_is here) c.if-axis_at-row.true c.shape-axes.ensures.sound j h)

pub returns-then-axis_at-row-clause-items : goal.returns-then-axis_at-row-clause-items
returns-then-axis_at-row-clause-items c =
    let self = c.args.self.now in
    let b = self.array.now in
    let here = (goal.at.returns-then-axis_at-row-clause-items c).After-axis_at in
    row_put c.extend_places.result c.args.items.now.items c.extend_places.new.items.items (λ i. replicate_item self.replicate.along self.counts.now b (c.args.row.now ++ i ∷ []))
    (λ j. get_or b.items (c.places_before-place.result - get_or self.before.now 0 0 + get_or self.before.now j 0) (fill b.item_type)) c.args.count
    (λ j h. last_item _ _ _ _ _ _ _ _ (row_is here) c.if-axis_at-row.true j h ∙ ap (λ m. Ok (get_or b.items m (fill b.item_type))) (omega (arith, place_is here)))
    (rw (as_many _ _ _ _ _ _ _ _ (row_is here) c.if-axis_at-row.true) at c.extend_places.ensures.items)

pub extend_run-requires-clause-inside : goal.extend_run-requires-clause-inside
extend_run-requires-clause-inside c =
    let here = (goal.at.extend_run-requires-clause-inside c).After-axis_at in
    let row = row_is here in
    omega (arith, place_is here, other_fits _ _ _ _ _ _ _ _ row (before_last _ _ _ _ _ _ _ _ row c.if-axis_at-row.false) c.shape-axes.ensures.sound)

pub returns-clause-items : goal.returns-clause-items
returns-clause-items c =
    let self = c.args.self.now in
    let b = self.array.now in
    let here = (goal.at.returns-clause-items c).After-axis_at in
    let other = before_last _ _ _ _ _ _ _ _ (row_is here) c.if-axis_at-row.false in
    row_put c.extend_run.result c.args.items.now.items c.extend_run.new.items.items (λ i. replicate_item self.replicate.along self.counts.now b (c.args.row.now ++ i ∷ []))
    (λ j. get_or b.items (c.places_before-place.result + j) (fill b.item_type)) c.args.count
    (λ j h. other_item _ _ _ _ _ _ _ _ (row_is here) other j h ∙ ap (λ m. Ok (get_or b.items m (fill b.item_type))) (omega (arith, place_is here)))
    c.extend_run.ensures.items
