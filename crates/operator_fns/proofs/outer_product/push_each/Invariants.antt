use Rattle.{std.proofs.Common.{◌+◌, ◌≤◌, length, map, vec_len, vec_capacity}, operator_fns.proofs.OuterRows.{RowTo}}
use Rattle.operator_fns.proofs.outer_product.push_each.Given as goal

abbrev pub invariant-loop-number : goal.invariant-loop-number
invariant-loop-number g l = record {
  made : RowTo l.fn.row.items (map (g.S.TwoNumbers.gives l.step l.left) l.right) l.number-index l.row.items;
  room : vec_len l.row + length l.right ≤ vec_capacity l.row + l.number-index;
}
