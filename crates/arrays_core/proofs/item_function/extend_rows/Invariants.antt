use Rattle.{std.proofs.Common.{◌≡◌, ◌<◌, ◌*◌, true}, arrays_core.{specs.Shapes.{is_index_of, places_before, size as size_of}, proofs.Order.{CollectedTo}}}
use Rattle.arrays_core.proofs.item_function.extend_rows.Given as goal

abbrev pub invariant-loop-before : goal.invariant-loop-before
invariant-loop-before g l = record {
  collected : CollectedTo (g.F.ItemFunction.result_shape l.function) (g.F.ItemFunction.item l.function) (l.before * l.count) l.items.items;
  typed : l.items.item_type ≡ l.fn.items.item_type;
  here : is_index_of l.rows.items l.row ≡ true;
  at : l.before < size_of l.rows.items → places_before l.rows.items l.row ≡ l.before;
}
