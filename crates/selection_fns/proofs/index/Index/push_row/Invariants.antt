use Rattle.{std.proofs.Common.{◌≡◌, ◌++◌, ◌∷◌, [], Ok}, arrays_core.specs.Building.{with_row}, selection_fns.specs.Index.{written_positions, index_item}}
use Rattle.selection_fns.proofs.index.Index.push_row.Given as goal

abbrev pub invariant-loop-before : goal.invariant-loop-before
invariant-loop-before l = record {
  made : with_row l.fn.items.items (λ i. index_item l.array (written_positions l.self.written.now l.positions) (l.row ++ i ∷ [])) l.before ≡ Ok l.items.items;
  typed : l.items.item_type ≡ l.fn.items.item_type;
}
