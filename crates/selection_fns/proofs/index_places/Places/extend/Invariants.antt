use Rattle.{std.proofs.Common.{◌≡◌, ◌++◌, map, take, get_or}, arrays_core.specs.Items.{fill}, selection_fns.specs.IndexPlaces.{sums, row_places}}
use Rattle.selection_fns.proofs.index_places.Places.extend.Given as goal

abbrev pub invariant-loop-head : goal.invariant-loop-head
invariant-loop-head l = record {
  made : l.items.items ≡ l.fn.items.items ++ map (λ k. get_or l.array.items k (fill l.array.item_type)) (sums (take l.head-index l.self.heads.items) (row_places l.self.row));
  typed : l.items.item_type ≡ l.fn.items.item_type;
}
