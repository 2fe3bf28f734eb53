use Rattle.{std.proofs.Common.{◌≡◌, ◌+◌, ◌-◌, ◌≤◌, ◌<◌, drop, Ok}, arrays_core.{specs.Items.{fill, type_of}, specs.declared.item.ItemType.TheVariants.{Nums}}}
use Rattle.item_fns.{specs.Items.{dyadic_on_items}, specs.Folds.{strided, folded}}
use Rattle.reduce_fns.proofs.right_fold.fold_items.Given as goal

abbrev pub invariant-loop-before : goal.invariant-loop-before
invariant-loop-before l = record {
  folded : folded (dyadic_on_items l.function) (drop l.before (strided (fill l.array.item_type) l.array.items (l.first - 1) l.stride l.count)) ≡ Ok l.result;
  below : l.before + 1 ≤ l.count;
  typed_last : l.before + 1 ≡ l.count → type_of l.result ≡ l.array.item_type;
  typed : l.before + 1 < l.count → type_of l.result ≡ Nums;
}
