use Rattle.std.proofs.Common.{◌≡◌, ◌<◌, ℕ, pos, [], ◌∷◌, drop, get_or, length}
use Rattle.arrays_core.{specs.declared.item.Item.TheVariants.{Num}, specs.declared.item.ItemType.TheVariants.{Nums}, specs.Arrays.{item_of}}
use Rattle.index_region.specs.Boxes.{box_size, walk_at}
use Rattle.search_fns.proofs.digits.column_numbers.Given as goal

abbrev pub invariant-loop-column : goal.invariant-loop-column
invariant-loop-column l = record {
  at : l.column < box_size l.region → l.index ≡ walk_at l.region l.column;
  typed : l.numbers.item_type ≡ Nums;
  shaped : l.numbers.shape ≡ l.columns ∷ [];
  long : length l.numbers.items ≡ l.columns;
  each : (j : ℕ) → j < l.column → get_or l.numbers.items j (Num (pos 0)) ≡ item_of l.array (walk_at (drop 1 l.region) j);
}
