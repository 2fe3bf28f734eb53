use Rattle.{std.proofs.Common.{◌≡◌, ◌≤◌, ◌<◌, ◌+◌, take, length}, index_region.specs.Boxes.{box_size, walk_at}}
use Rattle.change_core.{proofs.Collected.{along, collected}, specs.Meters.{ticked}, proofs.Walking.{prepend, rest_from}}
use Rattle.change_core.proofs.rule.Rule.item_by_item.Given as goal

abbrev pub invariant-loop-place : goal.invariant-loop-place
invariant-loop-place g l =
    let item = (g.Self.Rule.model l.self).item l.args in
    record {
      none : l.place ≡ 0 → l.meter.ticks ≡ l.initial.meter.ticks;
      some : 0 < l.place → l.meter.ticks ≡ ticked l.initial.meter.ticks l.place;
      ticks : l.meter.ticks ≤ l.initial.meter.ticks + l.place;
      rises : l.initial.meter.ticks ≤ l.meter.ticks;
      joins : l.meter.joins ≡ l.initial.meter.joins;
      at : l.place < box_size l.region → l.index ≡ walk_at l.region l.place;
      many : length l.values.items ≡ box_size l.region;
      typed : l.values.item_type ≡ l.fn.item_type;
      rest : prepend (take l.place l.values.items) (rest_from (λ p. item (walk_at l.region p)) (box_size l.region) l.place) ≡ collected (along item l.region);
    }
