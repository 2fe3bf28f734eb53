use Rattle.std.{proofs.Common.{rules, ◌≡◌, ◌<◌, refl, length, set, get_or, drop, ◌∙◌, arith, to_z, of_z, w64}, proofs.lemmas.Int.{to_z-of_z}, proofs.lemmas.Grind.{get_or_default_zero}, proofs.lemmas.List.{length-set, take_at}}
use Rattle.{index_region.{specs.Axes.{places_along}, proofs.OnAxes.{on_axis}}, structural_fns.specs.Rotate.{rotated_place}, arrays_core.proofs.Shapes.{as_long}}
use Rattle.structural_fns.proofs.rotate.rotated.Goals as goal

pub shape_of-at-requires : goal.shape_of-at-requires
shape_of-at-requires c = let long = as_long c.args.axes.now c.args.index.now c.requires.in_range in omega (arith, c.requires.rank)

pub rotated_place-requires-clause-low : goal.rotated_place-requires-clause-low
rotated_place-requires-clause-low c = (on_axis c.args.axes.now c.args.index.now c.args.axis c.requires.in_range (c.requires.there (search rules))).low

pub rotated_place-requires-clause-high : goal.rotated_place-requires-clause-high
rotated_place-requires-clause-high c = (on_axis c.args.axes.now c.args.index.now c.args.axis c.requires.in_range (c.requires.there (search rules))).high

pub bounds-deref_mut-axis : goal.bounds-deref_mut-axis
bounds-deref_mut-axis c =
    let long = as_long c.args.axes.now c.args.index.now c.requires.in_range in
    let below = c.requires.there (search rules) in
    grind arith

pub returns-then-not-is_empty-clause-is : goal.returns-then-not-is_empty-clause-is
returns-then-not-is_empty-clause-is c =
    let axes = c.args.axes.now in
    let index = c.args.index.now in
    let k = c.args.axis in
    let long = as_long axes index c.requires.in_range in
    let some : 0 < length axes = search rules in
    let n : get_or axes k 1 ≡ get_or axes k 0 = get_or_default_zero axes k 1 (c.requires.there some) in
    let i : get_or index k 1 ≡ get_or index k 0 = get_or_default_zero index k 1 (omega arith) in
    let same : to_z w64 (of_z w64 c.args.amount) ≡ c.args.amount = to_z-of_z w64 c.args.amount c.ranges.amount in
    let put : set index k c.rotated_place.result ≡ set index k (rotated_place (places_along axes k) c.args.amount (get_or index k 1)) = rw (n, i, rw same at c.rotated_place.ensures) refl in
    let value : c.deref_mut.result.now ≡ index = c.deref_mut.ensures.value ∙ c.shape_of-at.ensures.items in
    rw (value, c.shape_of-at.ensures.items) (take_at (set index k c.rotated_place.result) (drop _ index) (length index) (length-set index k c.rotated_place.result) ∙ put)
