use Rattle.std.proofs.Common.{arith}
use Rattle.arrays_core.{specs.Shapes.{places_before}, proofs.Shapes.{as_long, turn_at, turn_ended, places_below}}
use Rattle.structural_fns.proofs.index_source.place_of.Goals as goal

pub overflow_mul-before : goal.overflow_mul-before
overflow_mul-before g c =
    let axes = c.args.axes.now in
    let list = g.S.IndexSource.list c.args.source.now in
    let long = as_long axes list c.requires.in_range in
    let test = c.loop-k-test.true in
    let bound = (turn_at axes list c.loop-k.k c.loop-k.before (places_before axes list) (omega arith) long c.loop-k.invariant.place c.loop-k.invariant.inside).bound in
    omega (arith, bound, places_below axes list c.requires.in_range, c.requires.within.size_within)

pub overflow_add-before : goal.overflow_add-before
overflow_add-before g c =
    let axes = c.args.axes.now in
    let list = g.S.IndexSource.list c.args.source.now in
    let long = as_long axes list c.requires.in_range in
    let test = c.loop-k-test.true in
    let bound = (turn_at axes list c.loop-k.k c.loop-k.before (places_before axes list) (omega arith) long c.loop-k.invariant.place c.loop-k.invariant.inside).bound in
    rw c.index.ensures (omega (arith, bound, places_below axes list c.requires.in_range, c.requires.within.size_within))

pub returns : goal.returns
returns g c =
    let same = as_long c.args.axes.now (g.S.IndexSource.list c.args.source.now) c.requires.in_range in
    turn_ended c.args.axes.now (g.S.IndexSource.list c.args.source.now) c.loop-k.k c.loop-k.before _ (omega arith) same c.loop-k.invariant.place
