use Rattle.{std.proofs.Common.{arith}, structural_fns.proofs.BoxPlaces.{first_inside, last_inside, first_before_last}}
use Rattle.structural_fns.proofs.places.places_of.Goals as goal

pub position-first-requires-clause-in_range : goal.position-first-requires-clause-in_range
position-first-requires-clause-in_range c =
    rw (c.shape-shape.ensures.is, c.as_slice.ensures.is, c.first_index.ensures, c.as_slice-intervals.ensures.is) (first_inside c.args.region.now c.args.array.now.shape c.requires)

pub position-last-requires-clause-in_range : goal.position-last-requires-clause-in_range
position-last-requires-clause-in_range c =
    rw (c.shape-shape.ensures.is, c.as_slice-2.ensures.is, c.last_index.ensures, c.as_slice-intervals.ensures.is) (last_inside c.args.region.now c.args.array.now.shape c.requires)

pub returns-clause-order : goal.returns-clause-order
returns-clause-order c =
    let first = rw (c.shape-shape.ensures.is, c.as_slice.ensures.is, c.first_index.ensures, c.as_slice-intervals.ensures.is) at c.position-first.ensures.is in
    let last = rw (c.shape-shape.ensures.is, c.as_slice-2.ensures.is, c.last_index.ensures, c.as_slice-intervals.ensures.is) at c.position-last.ensures.is in
    omega (arith, first_before_last c.args.region.now c.args.array.now.shape c.requires, first, last)
