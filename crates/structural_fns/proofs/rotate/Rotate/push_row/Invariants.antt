use Rattle.{std.proofs.Common.{◌≡◌, ◌++◌, ◌∷◌, [], Ok}, arrays_core.specs.Building.{with_row}, structural_fns.specs.Rotate.{rotate_item}}
use Rattle.structural_fns.proofs.rotate.Rotate.push_row.Given as goal

abbrev pub invariant-loop-before : goal.invariant-loop-before
invariant-loop-before l = record {
  made : with_row l.fn.items.items (λ i. rotate_item l.self.along l.amounts l.array (l.row ++ i ∷ [])) l.before ≡ Ok l.items.items;
  typed : l.items.item_type ≡ l.fn.items.item_type;
}
