use Rattle.{std.proofs.Common.{◌≡◌, ◌+◌, ◌-◌, ◌%◌, arith}, structural_fns.proofs.SourcePlaces.{recycled_inside}}
use Rattle.structural_fns.proofs.reshape.source_in.Goals as goal

pub returns-clause-inside : goal.returns-clause-inside
returns-clause-inside c =
    let before = c.places_before-before.result in
    let places = c.places-places.result in
    let back : before % places + 1 - 1 ≡ before % places = omega arith in (
      rw (c.index_of_position-at.ensures.is, c.shape.ensures.is, back) (recycled_inside c.args.array.now.shape before places c.places-places.ensures.size (omega arith)),
      c.index_of_position-at.ensures.inline,
    )
