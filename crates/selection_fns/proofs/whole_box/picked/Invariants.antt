use Rattle.{std.proofs.Common.{◌≡◌, ◌<◌, ℕ, get_or, length, Some}, arrays_core.{specs.Arrays.{item_if_there}, specs.Items.{fill}}}
use Rattle.index_region.specs.Boxes.{box_size, walk_at}
use Rattle.selection_fns.proofs.whole_box.picked.Given as goal

abbrev pub invariant-loop-place : goal.invariant-loop-place
invariant-loop-place l = record {
  at : l.place < box_size l.region → l.index ≡ walk_at l.region l.place;
  typed : l.items.item_type ≡ l.whole.item_type;
  long : length l.items.items ≡ box_size l.region;
  each : (place : ℕ) → place < l.place → item_if_there l.whole (walk_at l.region place) ≡ Some (get_or l.items.items place (fill l.whole.item_type));
}
