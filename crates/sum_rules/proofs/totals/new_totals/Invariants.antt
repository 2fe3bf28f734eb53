use Rattle.{std.proofs.Common.{◌≡◌, ◌≤◌, ◌<◌, ◌+◌, take, length}, arrays_core.specs.declared.item.ItemType.TheVariants.{Nums}}
use Rattle.{function_names.specs.Axes.{axis_at}, index_region.{specs.Boxes.{box_size, walk_at}, specs.Patches.{patched}}, reduce_fns.specs.Reduce.{reduce_item}}
use Rattle.change_core.{specs.Meters.{ticked}, proofs.Collected.{along, collected}, proofs.Walking.{prepend, rest_from}}
use Rattle.sum_rules.{specs.LineSums.{array_of_shape, length_along}, specs.Totals.{AreJoinsWithin, AreJoinsFrom, box_of_lines}}
use Rattle.sum_rules.proofs.totals.new_totals.Given as goal

abbrev pub invariant-loop-line : goal.invariant-loop-line
invariant-loop-line g l =
    let item = reduce_item l.fn.fold.function l.fn.fold.along (patched (array_of_shape l.fn.shape.items (g.S.LineTotals.trees l.fn.sums).numbers) l.fn.patch) in
    let region = box_of_lines (axis_at (length l.fn.shape.items) l.fn.fold.along) l.fn.patch.region in
    record {
      ticks : l.meter.ticks ≤ l.fn.meter.ticks + l.line;
      none : l.line ≡ 0 → l.meter.ticks ≡ l.fn.meter.ticks;
      some : 0 < l.line → l.meter.ticks ≡ ticked l.fn.meter.ticks l.line;
      rises : l.fn.meter.ticks ≤ l.meter.ticks;
      joins : AreJoinsWithin l.line (length_along l.fn.fold.along l.fn.shape.items) l.fn.meter.joins l.meter.joins;
      least : AreJoinsFrom l.line (length_along l.fn.fold.along l.fn.shape.items) l.fn.meter.joins l.meter.joins;
      at : l.line < box_size l.fn.patch.region → l.index ≡ walk_at l.fn.patch.region l.line;
      many : length l.totals.items ≡ box_size region;
      typed : l.totals.item_type ≡ Nums;
      rest : prepend (take l.line l.totals.items) (rest_from (λ before. item (walk_at region before)) (box_size region) l.line) ≡ collected (along item region);
    }
