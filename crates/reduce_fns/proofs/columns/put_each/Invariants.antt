use Rattle.std.proofs.Common.{◌≡◌, ℕ, ◌<◌, ◌≤◌, get_or, length, pos, Ok}
use Rattle.reduce_fns.proofs.columns.put_each.Given as goal

abbrev pub invariant-loop-column : goal.invariant-loop-column
invariant-loop-column g l = record {
  long : length l.folds ≡ length l.initial.folds;
  made : l.doubt ≡ 0 → (k : ℕ) → k < l.column → g.S.TwoNumbers.gives l.step (get_or l.row k (pos 0)) (get_or l.initial.folds k (pos 0)) ≡ Ok (get_or l.folds k (pos 0));
  left : (k : ℕ) → l.column ≤ k → get_or l.folds k (pos 0) ≡ get_or l.initial.folds k (pos 0);
}
