use Rattle.{std.proofs.Common.{◌≡◌, take, drop}, arrays_core.specs.Shapes.{is_index_of}, sheet_recalc.specs.Cells.{index_of_numbers}}
use Rattle.sheet_recalc.proofs.cell.index_of.Given as goal

abbrev pub invariant-loop-axis : goal.invariant-loop-axis
invariant-loop-axis l = record {
  so_far : l.index.items ≡ index_of_numbers (take l.axis l.positions);
  inline : l.index.capacity ≡ 4;
  left : is_index_of (drop l.axis l.shape.items) (index_of_numbers (drop l.axis l.positions)) ≡ is_index_of l.shape.items (index_of_numbers l.positions);
}
