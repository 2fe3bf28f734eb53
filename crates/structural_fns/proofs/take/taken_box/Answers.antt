use Rattle.{std.proofs.Common.{◌≡◌, ℤ, ap, get_or, pos, ◌∙◌, append_assoc, arith, rules}, index_region.{specs.Arguments.{numbers}, proofs.Boxes.{fits_length}}}
use Rattle.structural_fns.{proofs.Counting.{numbers_long, count_read}, specs.Take.{taken}, proofs.Moved.{taken_more, interval_on}}
use Rattle.structural_fns.proofs.take.taken_box.Goals as goal

pub taken_interval-first-requires-clause-order : goal.taken_interval-first-requires-clause-order
taken_interval-first-requires-clause-order c = (interval_on c.args.intervals.now c.args.axes.now c.loop-k.k c.requires.fit (omega arith)).order

pub taken_interval-first-requires-clause-on_axis : goal.taken_interval-first-requires-clause-on_axis
taken_interval-first-requires-clause-on_axis c = (interval_on c.args.intervals.now c.args.axes.now c.loop-k.k c.requires.fit (omega arith)).high

pub loop-k-preserved : goal.loop-k-preserved
loop-k-preserved c =
    let intervals = c.args.intervals.now in
    let k = c.loop-k.k in
    let a = c.args.counts.now in
    let long = numbers_long a in
    let as_many = fits_length intervals c.args.axes.now c.requires.fit in
    let more = taken_more c.args.axes.now (numbers a) intervals k (omega arith) (omega (arith, c.requires.long)) (omega arith) in
    let put : c.taken_interval-first.result ≡ (taken (get_or c.args.axes.now k 0) (get_or (numbers a) k (pos 0))).image (get_or intervals k (0, 0)) =
    c.taken_interval-first.ensures ∙ ap (λ (z : ℤ). (taken (get_or c.args.axes.now k 0) z).image (get_or intervals k (0, 0))) (count_read a _ k (search rules) c.number-count.ensures) in
    record {
      long = omega (arith, c.push.ensures.long, c.loop-k.invariant.long);
      done = rw c.push.ensures.is (rw append_assoc (rw put (rw more at c.loop-k.invariant.done)));
    }
