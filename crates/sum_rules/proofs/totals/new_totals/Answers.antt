use Rattle.std.{proofs.Common.{◌≡◌, refl, ◌∙◌, ◌<◌, ◌+◌, ◌*◌, ◌≤◌, ℕ, List, length, remove, take, sym, ap, arith, subst}, proofs.Math.Nat.{mul-le-mul_right}}
use Rattle.{arrays_core.specs.Arrays.{ArrayValue}, function_names.specs.Axes.{axis_at}}
use Rattle.index_region.{specs.Boxes.{Interval, box_size, is_within, walk_at}, specs.Patches.{patched}, proofs.Walks.{some_place, walk_within}}
use Rattle.reduce_fns.specs.Reduce.{reduce_item}
use Rattle.change_core.{specs.Meters.{ticked}, proofs.Collected.{items_are}, proofs.Filling.{all_filled, as_many_written, few_places, filled_many, nothing_filled, one_filled, one_more_tick, vector_within}, proofs.Walking.{rest_err}}
use Rattle.sum_rules.{specs.LineSums.{array_of_shape}, specs.Totals.{box_of_lines}, proofs.ChangedLines.{as_many_lines, line_there}, proofs.totals.new_totals.Given.{Over}, proofs.totals.new_totals.Goals.{After-line_total, In-loop-line, Start}}
use Rattle.sum_rules.proofs.totals.new_totals.Goals as goal

-- the box of the totals has as many places
same_many : (g : Over) (c : Start g) → box_size c.args.patch.now.region ≡ box_size (box_of_lines (axis_at (length c.args.shape.now.items) c.args.fold.along) c.args.patch.now.region)
same_many g c = as_many_lines _ _ _ _ c.requires.lines c.requires.fit c.requires.one

-- the line is one of them
below : (g : Over) (c : In-loop-line g) → c.loop-line.line < box_size c.args.patch.now.region
below g c = omega (arith, c.loop-line-test.true, c.size-lines.ensures, ap box_size c.region-region.ensures)

under : (g : Over) (c : In-loop-line g) → c.loop-line.line < box_size (box_of_lines (axis_at (length c.args.shape.now.items) c.args.fold.along) c.args.patch.now.region)
under g c = omega (arith, below g c, same_many g (goal.at-In-loop-line g c).Start)

-- the total of this line in the patched array
total_is : (g : Over) (c : After-line_total g)
    → reduce_item c.args.fold.function c.args.fold.along (patched (array_of_shape c.args.shape.now.items (g.S.LineTotals.trees c.args.sums.now).numbers) c.args.patch.now)
    (walk_at (box_of_lines (axis_at (length c.args.shape.now.items) c.args.fold.along) c.args.patch.now.region) c.loop-line.line) ≡ c.line_total.result
total_is g c =
    let here = (goal.at-After-line_total g c).In-loop-line in
    let there = ap (λ (i : List ℕ). remove i (axis_at (length c.args.shape.now.items) c.args.fold.along)) (c.as_slice.ensures.is ∙ c.loop-line.invariant.at (below g here))
    ∙ line_there _ _ _ _ c.requires.lines c.requires.fit c.requires.one c.loop-line.line (under g here) in
    ap (reduce_item c.args.fold.function c.args.fold.along (patched (array_of_shape c.args.shape.now.items (g.S.LineTotals.trees c.args.sums.now).numbers) c.args.patch.now)) (sym there) ∙ sym c.line_total.ensures.total

pub size-lines-requires : goal.size-lines-requires
size-lines-requires g c = omega (arith, few_places c.args.patch.now.region c.args.shape.now.items c.requires.fit.inside c.requires.lines.sound.within, ap box_size c.region-region.ensures)

pub overflow_cast-lines : goal.overflow_cast-lines
overflow_cast-lines g c = omega (arith, few_places c.args.patch.now.region c.args.shape.now.items c.requires.fit.inside c.requires.lines.sound.within, c.size-lines.ensures, ap box_size c.region-region.ensures)

pub filled-requires : goal.filled-requires
filled-requires g c =
    vector_within _ _ c.shape_of.ensures.items (omega (arith, few_places c.args.patch.now.region c.args.shape.now.items c.requires.fit.inside c.requires.lines.sound.within, c.size-lines.ensures, ap box_size c.region-region.ensures))

pub index_at-index-requires-clause-below : goal.index_at-index-requires-clause-below
index_at-index-requires-clause-below g c = rw c.region-region.ensures (some_place c.args.patch.now.region c.args.shape.now.items c.requires.fit.inside)

pub loop-line-init : goal.loop-line-init
loop-line-init g c =
    let a = array_of_shape c.args.shape.now.items (g.S.LineTotals.trees c.args.sums.now).numbers in
    let region = box_of_lines (axis_at (length c.args.shape.now.items) c.args.fold.along) c.args.patch.now.region in
    record {
      ticks = omega arith;
      none = λ _. refl;
      some = λ h. absurd (omega arith);
      rises = omega arith;
      joins = λ digits h. omega arith;
      least = λ two. omega arith;
      at = λ _. c.index_at-index.ensures ∙ ap (λ (r : List Interval). walk_at r 0) c.region-region.ensures;
      many = filled_many c.in_ok-totals.totals _ c.shape_of.result.items c.size-lines.result (box_size region) c.in_ok-totals.ensures c.shape_of.ensures.items
          (c.size-lines.ensures ∙ ap box_size c.region-region.ensures ∙ same_many g (goal.at.loop-line-init g c).Start);
      typed = ap (λ (b : ArrayValue). b.item_type) c.in_ok-totals.ensures;
      rest = nothing_filled (λ before. reduce_item c.args.fold.function c.args.fold.along (patched a c.args.patch.now) (walk_at region before)) (box_size region) c.in_ok-totals.totals.items;
    }

pub write_at-requires-clause-high : goal.write_at-requires-clause-high
write_at-requires-clause-high g c = omega (arith, c.loop-line.invariant.many, under g (goal.at.write_at-requires-clause-high g c).In-loop-line)

pub returns-clause-totals : goal.returns-clause-totals
returns-clause-totals g c =
    let region = box_of_lines (axis_at (length c.args.shape.now.items) c.args.fold.along) c.args.patch.now.region in
    let item = reduce_item c.args.fold.function c.args.fold.along (patched (array_of_shape c.args.shape.now.items (g.S.LineTotals.trees c.args.sums.now).numbers) c.args.patch.now) in
    let ended : box_size region ≤ c.loop-line.line =
    omega (arith, c.loop-line-test.false, c.size-lines.ensures, ap box_size c.region-region.ensures, same_many g (goal.at.returns-clause-totals g c).Start) in (
      sym (items_are item region) ∙ all_filled c.loop-line.totals (λ q. item (walk_at region q)) (box_size region) c.loop-line.line _ c.loop-line.invariant.many ended c.loop-line.invariant.rest,
      c.loop-line.invariant.typed,
    )

pub returns-clause-exact : goal.returns-clause-exact
returns-clause-exact g c =
    let last : c.loop-line.line ≡ box_size c.args.patch.now.region = omega (arith, c.loop-line-test.false, c.size-lines.ensures, ap box_size c.region-region.ensures) in
    c.loop-line.invariant.some (omega (arith, last, some_place c.args.patch.now.region c.args.shape.now.items c.requires.fit.inside)) ∙ ap (ticked c.args.meter.now.ticks) last

pub line_total-requires-clause-inside : goal.line_total-requires-clause-inside
line_total-requires-clause-inside g c =
    let here = below g (goal.at.line_total-requires-clause-inside g c).In-loop-line in
    ap (is_within c.args.patch.now.region) (c.as_slice.ensures.is ∙ c.loop-line.invariant.at here) ∙ walk_within c.args.patch.now.region c.loop-line.line here

pub returns-in-Err-clause-totals : goal.returns-in-Err-clause-totals
returns-in-Err-clause-totals g c =
    let here = goal.at.returns-in-Err-clause-totals g c in
    let region = box_of_lines (axis_at (length c.args.shape.now.items) c.args.fold.along) c.args.patch.now.region in
    let item = reduce_item c.args.fold.function c.args.fold.along (patched (array_of_shape c.args.shape.now.items (g.S.LineTotals.trees c.args.sums.now).numbers) c.args.patch.now) in
    sym (items_are item region) ∙ sym c.loop-line.invariant.rest
    ∙ rest_err (λ q. item (walk_at region q)) (box_size region) c.loop-line.line (take c.loop-line.line c.loop-line.totals.items) _ (under g here.In-loop-line) (total_is g here.After-line_total ∙ c.in-Err.is)

pub returns-in-Err-clause-joins : goal.returns-in-Err-clause-joins
returns-in-Err-clause-joins g c = λ digits h.
    let most : (c.loop-line.line + 1) * digits ≤ box_size c.args.patch.now.region * digits = mul-le-mul_right digits (omega (arith, below g (goal.at.returns-in-Err-clause-joins g c).In-loop-line)) in
    omega (arith, c.loop-line.invariant.joins digits h, c.line_total.ensures.joins digits h, most)

pub loop-line-preserved : goal.loop-line-preserved
loop-line-preserved g c =
    let here = goal.at.loop-line-preserved g c in
    let region = box_of_lines (axis_at (length c.args.shape.now.items) c.args.fold.along) c.args.patch.now.region in
    let item = reduce_item c.args.fold.function c.args.fold.along (patched (array_of_shape c.args.shape.now.items (g.S.LineTotals.trees c.args.sums.now).numbers) c.args.patch.now) in
    let before = c.loop-line.line in
    record {
      ticks = omega (arith, c.line_total.ensures.ticks, c.loop-line.invariant.ticks);
      none = λ h. absurd (omega arith);
      some = λ _. one_more_tick c.args.meter.now.ticks before c.loop-line.meter.ticks _ c.loop-line.invariant.none c.loop-line.invariant.some c.line_total.ensures.ticks;
      rises = omega (arith, c.line_total.ensures.rises, c.loop-line.invariant.rises);
      joins = λ digits h.
          omega (arith, c.loop-line.invariant.joins digits h, c.line_total.ensures.joins digits h);
      least = λ two.
          omega (arith, c.loop-line.invariant.least two, c.line_total.ensures.least two);
      at = subst (λ (r : List Interval). before + 1 < box_size r → c.advance.new.index ≡ walk_at r (before + 1)) c.region-region.ensures
          (λ later. c.advance.ensures.next before later (c.loop-line.invariant.at (below g here.In-loop-line) ∙ ap (λ (r : List Interval). walk_at r before) (sym c.region-region.ensures)));
      many = as_many_written c.loop-line.totals c.write_at.new.self (box_size region) before _ c.loop-line.invariant.many c.write_at.ensures;
      typed = ap (λ (b : ArrayValue). b.item_type) c.write_at.ensures ∙ c.loop-line.invariant.typed;
      rest = one_filled c.loop-line.totals c.write_at.new.self (λ q. item (walk_at region q)) (box_size region) before _ _ c.loop-line.invariant.many (under g here.In-loop-line)
          (total_is g here.After-line_total ∙ c.in-Ok.is) c.write_at.ensures c.loop-line.invariant.rest;
    }
