use Rattle.std.{proofs.Common.{◌≡◌, ◌∙◌, List, ap, arith, length, subst, sym, take, true}, proofs.lemmas.List.{length-map, length-take-le, take_all}}
use Rattle.{arrays_core.proofs.Shapes.{as_long}, index_region.{specs.Boxes.{Interval, is_box}, proofs.OnePlace.{one_place, one_place_box}}}
use Rattle.index_region.proofs.index_box.IndexBox.at.Goals as goal

pub push-requires : goal.push-requires
push-requires c =
    let index = c.args.index.now in
    let k = c.loop-place.place-index in
    let pushed : length c.loop-place.intervals ≡ k = ap (λ (r : List Interval). length r) c.loop-place.invariant ∙ length-map (take k index) (λ i. (i, i)) ∙ length-take-le k index (omega arith) in
    omega (arith, as_long c.args.shape.now index c.requires.inside, pushed, c.requires.rank, c.loop-place-test.true)

pub invariant_of-result : goal.invariant_of-result
invariant_of-result c =
    let index = c.args.index.now in
    let whole = take_all c.loop-place.place-index index (omega (arith, c.loop-place-test.false)) in
    subst (λ (r : List Interval). is_box r ≡ true) (sym (c.loop-place.invariant ∙ ap one_place whole)) (one_place_box c.args.shape.now index c.requires.rank c.requires.inside)
