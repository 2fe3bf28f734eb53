use Rattle.{std.proofs.Common.{rules, ◌≡◌, get_or, map, unsigned_abs, arith}, index_region.specs.Arguments.{numbers}}
use Rattle.selection_fns.{proofs.Copies.{count_step}, proofs.Repeated.{sum_within}}
use Rattle.selection_fns.proofs.replicate_rule.copies_of_counts.Goals as goal

pub overflow_cast-copies : goal.overflow_cast-copies
overflow_cast-copies c =
    let counts = map unsigned_abs (numbers c.args.counts.now) in
    let step = count_step c.args.counts.now c.loop-place.place (search rules) in
    let at : c.unsigned_abs.result ≡ get_or counts c.loop-place.place 0 = search (rules, step.at) in
    omega (arith, at, sum_within counts c.loop-place.place step.below, c.requires.few)

pub overflow_add-copies : goal.overflow_add-copies
overflow_add-copies c =
    let counts = map unsigned_abs (numbers c.args.counts.now) in
    let step = count_step c.args.counts.now c.loop-place.place (search rules) in
    let at : c.unsigned_abs.result ≡ get_or counts c.loop-place.place 0 = search (rules, step.at) in
    omega (arith, at, sum_within counts c.loop-place.place step.below, c.requires.few, c.loop-place.invariant)

pub loop-place-preserved : goal.loop-place-preserved
loop-place-preserved c =
    let step = count_step c.args.counts.now c.loop-place.place (search rules) in
    let at : c.unsigned_abs.result ≡ get_or (map unsigned_abs (numbers c.args.counts.now)) c.loop-place.place 0 = search (rules, step.at) in
    omega (arith, at, step.taken, c.loop-place.invariant)
