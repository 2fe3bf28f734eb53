use Rattle.{std.proofs.Common.{◌∙◌, ap, arith}, function_names.specs.Axes.{axis_at}}
use Rattle.structural_fns.{proofs.SidePlaces.{JoinFacts, join_facts}, proofs.catenate.Catenate.source.Goals.{After-axis_at-axis}}
use Rattle.structural_fns.proofs.catenate.Catenate.source.Goals as goal

-- the index on the axis is a place of one of the sides
facts : (c : After-axis_at-axis) → JoinFacts c.joined_rank-rank.result c.axis_at-axis.result c.args.left.now c.args.right.now c.args.index.now
facts c =
    let rank = c.joined_rank-rank.ensures.is in
    let axis = c.axis_at-axis.ensures.is ∙ ap (λ n. axis_at n c.args.self.along) rank in
    rw (axis, rank) (join_facts c.args.self.along c.args.left.now c.args.right.now c.args.index.now (omega (arith, axis, rank, c.axis_at-axis.ensures.below c.joined_rank-rank.ensures.low)) c.requires)

pub bounds-index-axis : goal.bounds-index-axis
bounds-index-axis c = let h = facts (goal.at.bounds-index-axis c).After-axis_at-axis in omega (arith, h.long, c.axis_at-axis.ensures.below c.joined_rank-rank.ensures.low)

pub in_side-at-requires-clause-long : goal.in_side-at-requires-clause-long
in_side-at-requires-clause-long c = (facts (goal.at.in_side-at-requires-clause-long c).After-axis_at-axis).long

pub in_side-at-requires-2-clause-long : goal.in_side-at-requires-2-clause-long
in_side-at-requires-2-clause-long c = (facts (goal.at.in_side-at-requires-2-clause-long c).After-axis_at-axis).long

pub returns-then-i-places-clause-inside : goal.returns-then-i-places-clause-inside
returns-then-i-places-clause-inside c =
    let here = facts (goal.at.returns-then-i-places-clause-inside c).After-axis_at-axis in
    let on = here.on in
    let places = c.joined_places-places.ensures.is in
    (rw c.in_side-at.ensures.is (here.left _ (record { low = omega (arith, on.low, places, c.if-i-places.true); high = omega (arith, on.high, places, c.if-i-places.true) })), c.in_side-at.ensures.inline)

pub returns-clause-inside : goal.returns-clause-inside
returns-clause-inside c =
    let here = facts (goal.at.returns-clause-inside c).After-axis_at-axis in
    let on = here.on in
    let places = c.joined_places-places.ensures.is in
    (rw c.in_side-at-2.ensures.is (here.right _ (record { low = omega (arith, on.low, places, c.if-i-places.false); high = omega (arith, on.high, places, c.if-i-places.false) })), c.in_side-at-2.ensures.inline)
