use Rattle.std.{proofs.Common.{◌≡◌, ◌≢◌, ◌∙◌, ◌+◌, ◌++◌, ◌∷◌, [], ap, sym, get_or, arith}, proofs.lemmas.List.Edits.{insert_end}}
use Rattle.arrays_core.{specs.Items.{fill}, specs.Shapes.{size, places_before}}
use Rattle.operator_fns.{specs.InnerProduct.{row_length}, specs.Laws.InnerPlaces.{row_place, extended_many}}
use Rattle.operator_fns.proofs.inner_product.row_line.Goals as goal

pub position-requires-clause-in_range : goal.position-requires-clause-in_range
position-requires-clause-in_range c =
    let many : size c.args.array.now.shape ≢ 1 = omega (arith, c.if-places-eq1.false, c.places.ensures.size) in
    let same = c.as_slice.ensures ∙ c.with_axis-first.ensures.is ∙ insert_end c.args.row.now 1 in
    rw (c.shape-shape.ensures.is, same) (row_place c.args.array.now c.args.row.now 0 many c.requires.inside (omega (arith, c.requires.some))).inside

pub returns-clause-is : goal.returns-clause-is
returns-clause-is c k h =
    let a = c.args.array.now in
    let row = c.args.row.now in
    let many : size a.shape ≢ 1 = omega (arith, c.if-places-eq1.false, c.places.ensures.size) in
    let long : row_length a ≡ c.args.count = c.requires.long (omega (arith, c.if-places-eq1.false, c.places.ensures.is)) in
    let first = row_place a row 0 many c.requires.inside (omega (arith, c.requires.some)) in
    let here = row_place a row k many c.requires.inside (omega arith) in
    let same = c.as_slice.ensures ∙ c.with_axis-first.ensures.is ∙ insert_end row 1 in
    let start : c.position.result ≡ places_before a.shape (row ++ 1 ∷ []) + 1 = rw (← same, ← c.shape-shape.ensures.is) c.position.ensures.is in
    ap (λ m. get_or a.items m (fill a.item_type)) (omega (arith, first.place, here.place)) ∙ sym (extended_many a (row ++ (k + 1) ∷ []) many)

pub returns-clause-there : goal.returns-clause-there
returns-clause-there c k h =
    let row = c.args.row.now in
    let many : size c.args.array.now.shape ≢ 1 = omega (arith, c.if-places-eq1.false, c.places.ensures.size) in
    let long : row_length c.args.array.now ≡ c.args.count = c.requires.long (omega (arith, c.if-places-eq1.false, c.places.ensures.is)) in
    let first = row_place c.args.array.now row 0 many c.requires.inside (omega (arith, c.requires.some)) in
    let same = c.as_slice.ensures ∙ c.with_axis-first.ensures.is ∙ insert_end row 1 in
    let start : c.position.result ≡ places_before c.args.array.now.shape (row ++ 1 ∷ []) + 1 = rw (← same, ← c.shape-shape.ensures.is) c.position.ensures.is in
    omega (arith, first.place, (row_place c.args.array.now row k many c.requires.inside (omega arith)).below, c.places.ensures.is, c.places.ensures.size)
