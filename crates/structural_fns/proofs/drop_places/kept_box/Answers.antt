use Rattle.{std.proofs.Common.{◌≡◌, ℤ, ap, get_or, pos, ◌∙◌, append_assoc, arith, rules}, index_region.specs.Arguments.{numbers}}
use Rattle.structural_fns.{proofs.Counting.{numbers_long, count_read}, specs.Drop.{kept}, proofs.Moved.{kept_more}}
use Rattle.structural_fns.proofs.drop_places.kept_box.Goals as goal

pub loop-k-preserved : goal.loop-k-preserved
loop-k-preserved c =
    let axes = c.args.axes.now in
    let k = c.loop-k.k in
    let a = c.args.counts.now in
    let long = numbers_long a in
    let more = kept_more axes (numbers a) c.args.intervals.now k (omega arith) (omega (arith, c.requires.long)) (omega (arith, c.requires.as_many)) in
    let put : c.kept_interval-first.result ≡ (kept (get_or axes k 0) (get_or (numbers a) k (pos 0))).image (get_or c.args.intervals.now k (0, 0)) =
    c.kept_interval-first.ensures (get_or axes k 0) ∙ ap (λ (z : ℤ). (kept (get_or axes k 0) z).image (get_or c.args.intervals.now k (0, 0))) (count_read a _ k (search rules) c.number-count.ensures) in
    record {
      long = omega (arith, c.push.ensures.long, c.loop-k.invariant.long);
      done = rw c.push.ensures.is (rw append_assoc (rw put (rw more at c.loop-k.invariant.done)));
    }
