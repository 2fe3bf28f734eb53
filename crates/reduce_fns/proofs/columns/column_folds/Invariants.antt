use Rattle.{std.proofs.Common.{◌≡◌, ℕ, ◌*◌, ◌<◌, get_or, pos, Ok, vec_len}, reduce_fns.specs.AxisLines.{fold_at}}
use Rattle.reduce_fns.proofs.columns.column_folds.Given as goal

abbrev pub invariant-loop-block : goal.invariant-loop-block
invariant-loop-block g l = record {
  long : vec_len l.folds ≡ l.block * l.lines.stride;
  made : (place : ℕ) → place < l.block * l.lines.stride → fold_at (g.S.TwoNumbers.gives l.step) l.lines place ≡ Ok (get_or l.folds.items place (pos 0));
}
