use Rattle.std.{proofs.Common.{◌≡◌, ◌≢◌, ◌∙◌, ◌+◌, ◌∷◌, drop, arith}, proofs.lemmas.List.{length-drop}}
use Rattle.arrays_core.{specs.Shapes.{size, places_before}, proofs.Shapes.{as_long}}
use Rattle.operator_fns.{specs.InnerProduct.{column_length}, specs.Laws.InnerPlaces.{column_place}}
use Rattle.operator_fns.proofs.inner_product.column_line.Goals as goal

pub with_axis-first-requires-clause-rank : goal.with_axis-first-requires-clause-rank
with_axis-first-requires-clause-rank c =
    let a = c.args.array.now in
    omega (arith, as_long (drop 1 a.shape) c.args.column.now c.requires.inside, length-drop 1 a.shape, c.places.ensures.sound.within.rank)

pub returns-clause-there : goal.returns-clause-there
returns-clause-there c k h =
    let a = c.args.array.now in
    let column = c.args.column.now in
    let many : size a.shape ≢ 1 = omega (arith, c.if-places-eq1.false, c.places.ensures.size) in
    let long : column_length a ≡ c.args.count = c.requires.long (omega (arith, c.if-places-eq1.false, c.places.ensures.is)) in
    let first = column_place a column 0 many c.requires.inside (omega (arith, c.requires.some)) in
    let same : c.as_slice.result.now ≡ 1 ∷ column = c.as_slice.ensures ∙ c.with_axis-first.ensures.is in
    let start : c.position.result ≡ places_before a.shape (1 ∷ column) + 1 = rw (← same, ← c.shape-shape.ensures.is) c.position.ensures.is in
    let apart : c.stride.result ≡ size (drop 1 a.shape) = rw (← c.shape-shape.ensures.is, ← c.as_slice-2.ensures) c.stride.ensures.is in
    rw apart (omega (arith, first.place, (column_place a column k many c.requires.inside (omega arith)).below, c.places.ensures.is, c.places.ensures.size))
