use Rattle.std.proofs.Common.{◌≤◌, ◌*◌, length, drop, vec_capacity}
use Rattle.search_fns.specs.EncodedRows.{ArePowers, AreRows}
use Rattle.search_fns.proofs.bit_rows.with_rows.Given as goal

abbrev pub invariant-loop-place : goal.invariant-loop-place
invariant-loop-place l = record {
  room : length l.radices * length l.numbers ≤ vec_capacity l.list;
  powers : ArePowers (drop l.place l.radices) l.dropped;
  few : l.dropped ≤ 64;
  rows : AreRows l.radices l.numbers l.place l.list.items;
}
