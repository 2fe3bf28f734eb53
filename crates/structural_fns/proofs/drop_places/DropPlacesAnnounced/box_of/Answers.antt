use Rattle.{std.proofs.Common.{◌≤◌, length, sym, arith}, index_region.{specs.Arguments.{numbers}, proofs.Passing.{two_arguments}}}
use Rattle.structural_fns.{specs.AxisCounts.{counted_shape}, specs.Drop.{drop_form, dropped_shape}, proofs.Counting.{dropped_long}, specs.Laws.CountedAxes.{counted_facts}, proofs.Calls.{form_of_two}, proofs.drop_places.DropPlacesAnnounced.box_of.Goals.{After-index-args-1}}
use Rattle.structural_fns.proofs.drop_places.DropPlacesAnnounced.box_of.Goals as goal

-- there are at most four counts
few : (c : After-index-args-1) → length c.index-args-0.result.items ≤ 4
few c =
    let a = c.index-args-0.result in
    let b = c.index-args-1.result in
    let form = form_of_two drop_form c.args.args.now a b c.args._shape.now (two_arguments c.args.args.now a b c.requires.count c.index-args-0.is c.index-args-1.is) c.requires.checked in
    let facts = counted_facts (dropped_shape (counted_shape a b) (numbers a)) a b form.form form.is in
    omega (arith, facts.rank, facts.items, dropped_long (counted_shape a b) (numbers a) (sym facts.many))

pub counted_shape-axes-requires : goal.counted_shape-axes-requires
counted_shape-axes-requires c = few (goal.at.counted_shape-axes-requires c).After-index-args-1

pub counted_box-intervals-requires : goal.counted_box-intervals-requires
counted_box-intervals-requires c = few (goal.at.counted_box-intervals-requires c).After-index-args-1
