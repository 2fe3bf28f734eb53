use Rattle.std.{proofs.Common.{◌≡◌, ◌≤◌, ◌*◌, take}, specs.List.{sum_by}, specs.Map.{keys_of}}
use Rattle.sheet_recalc.{specs.Planning.{functions_at}, specs.ProposedSheet.{outline_of}}
use Rattle.sheet_recalc.proofs.planning.functions_in.Given as goal

abbrev pub invariant-loop-place : goal.invariant-loop-place
invariant-loop-place l = record {
  counted : l.count ≡ sum_by (functions_at (outline_of l.proposed)) (take l.place (keys_of l.found.entries));
  small : l.count ≤ l.place * 18446744073709551616;
}
