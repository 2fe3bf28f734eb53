use Rattle.std.proofs.Common.{◌∙◌, ◌++◌, length, drop, take, refl, ap, List, ℕ, ◌+◌, ◌-◌}
use Rattle.index_region.{specs.Boxes.{Interval, cover_between, whole_of}, proofs.Boxes.{same_on_axis, differ_on_axis}}
use Rattle.index_region.proofs.index_box.covered.Goals as goal

pub loop-axis-preserved : goal.loop-axis-preserved
loop-axis-preserved c =
    let rest = cover_between (drop (c.loop-axis.axis + 1) c.args.axes.now) (drop (c.loop-axis.axis + 1) c.args.from.now) (drop (c.loop-axis.axis + 1) c.args.to.now) in
    record {
      long = c.push.ensures.long ∙ ap (λ (n : ℕ). n + 1) c.loop-axis.invariant.long;
      done = ap (λ (r : List Interval). r ++ rest) c.push.ensures.is
          ∙ same_on_axis c.loop-axis.axis c.loop-axis.intervals c.args.axes.now c.args.from.now c.args.to.now c.loop-axis-test.true c.requires.from c.requires.to c.if-from-axis.false
          ∙ c.loop-axis.invariant.done;
    }

pub returns-then-from-axis : goal.returns-then-from-axis
returns-then-from-axis c =
    let left = length c.args.axes.now - (c.loop-axis.axis + 1) in
    c.and_whole.ensures
    ∙ ap (λ (r : List Interval). r ++ whole_of (take left (drop (c.loop-axis.axis + 1) c.args.axes.now))) c.push.ensures.is
    ∙ differ_on_axis c.loop-axis.axis left c.loop-axis.intervals c.args.axes.now c.args.from.now c.args.to.now c.loop-axis-test.true c.requires.from c.requires.to c.if-from-axis.true refl
    ∙ c.loop-axis.invariant.done
