use Rattle.std.proofs.Common.{◌≤◌, drop}
use Rattle.search_fns.specs.EncodedRows.{ArePowers}
use Rattle.search_fns.proofs.bit_rows.bits_together.Given as goal

abbrev pub invariant-loop-place : goal.invariant-loop-place
invariant-loop-place l = record { powers : ArePowers (drop l.place l.radices) l.together; few : l.together ≤ l.most }
