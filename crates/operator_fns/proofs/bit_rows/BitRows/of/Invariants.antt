use Rattle.std.proofs.Common.{◌≡◌, ◌*◌, length}
use Rattle.operator_fns.specs.Unions.{HoldBits}
use Rattle.operator_fns.proofs.bit_rows.BitRows.of.Given as goal

abbrev pub invariant-loop-row : goal.invariant-loop-row
invariant-loop-row l = record {
  long : length l.words.items ≡ l.row * l.width;
  bits : HoldBits l.rows l.columns l.width l.row l.words.items;
}
