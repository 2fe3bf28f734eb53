use Rattle.std.proofs.Common.{◌≡◌, ◌∙◌, ◌<◌, ◌++◌, ◌∷◌, [], sym, ap, arith}
use Rattle.arrays_core.{specs.Shapes.{size as size_of}, proofs.Rows.{rows_within, some_rows, items_long}}
use Rattle.arrays_core.proofs.item_function.collect_rows.Goals as goal

pub extend_rows-requires-clause-within : goal.extend_rows-requires-clause-within
extend_rows-requires-clause-within g c =
    let shape = c.args.shape.now.items in
    let split : shape ≡ c.in-Some.others.now ++ c.in-Some.count.now ∷ [] = sym c.as_slice-axes.ensures ∙ c.in-Some.ensures.cases.0 in
    let e : size_of shape ≡ c.size-places.result = ap size_of (sym c.as_slice-axes.ensures) ∙ sym c.size-places.ensures in
    let positive : 0 < size_of shape = let no = c.if-places-eq0.false in omega arith in
    rw c.shape_of.ensures.items (rows_within c.in-Some.others.now c.in-Some.count.now (rw split at c.requires.within) (rw split at positive))

pub extend_rows-requires-clause-some : goal.extend_rows-requires-clause-some
extend_rows-requires-clause-some g c =
    let shape = c.args.shape.now.items in
    let e : size_of shape ≡ c.size-places.result = ap size_of (sym c.as_slice-axes.ensures) ∙ sym c.size-places.ensures in
    let positive : 0 < size_of shape = let no = c.if-places-eq0.false in omega arith in
    rw c.shape_of.ensures.items (some_rows c.in-Some.others.now c.in-Some.count.now (rw (sym c.as_slice-axes.ensures ∙ c.in-Some.ensures.cases.0) at positive))

pub into_array-requires-clause-one_item_a_place : goal.into_array-requires-clause-one_item_a_place
into_array-requires-clause-one_item_a_place g c =
    items_long _ (g.F.ItemFunction.item c.args.function.now) c.extend_rows-2.new.items.items c.in_ok-extend_rows.ensures.items ∙ ap size_of (sym c.requires.shaped)
